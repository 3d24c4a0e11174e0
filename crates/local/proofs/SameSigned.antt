-- A state that is the same value still, after one step and another. Assumes nothing.
use mathlib.Core.Path.{refl, ◌∙◌}
use Rattle.local.specs.declared.signed.Signed.{Signed}
use Rattle.local.specs.Signed.{Same}

pub same_here : (t : Signed) → Same t t
same_here t = record { lent = refl; dim = refl }

pub same_then : (t t' t'' : Signed) → Same t t' → Same t' t'' → Same t t''
same_then t t' t'' s u = record { lent = u.lent ∙ s.lent; dim = u.dim ∙ s.dim }
