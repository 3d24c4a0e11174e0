-- A matrix that is the same still, after one step and another. Assumes nothing.
use mathlib.Core.Path.{refl, ◌∙◌}
use Rattle.real.specs.declared.entries.Square.{Square}
use Rattle.real.specs.Squares.{Same}

pub same_here : (m : Square) → Same m m
same_here m = record { lent = refl; dim = refl }

pub same_then : (m m' m'' : Square) → Same m m' → Same m' m'' → Same m m''
same_then m m' m'' s t = record { lent = t.lent ∙ s.lent; dim = t.dim ∙ s.dim }
