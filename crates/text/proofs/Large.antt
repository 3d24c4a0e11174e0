-- What the questions 1 to 8 say of a tape tells whether it is too large to be printed. Assumes nothing.
use mathlib.Core.Path.{◌≡◌, refl, sym, ap, ◌∙◌}
use mathlib.Core.Bool.{Bool, false, ◌||◌}
use lib.Dec.{ltb}
use Rattle.tape.specs.Parse.{Parsed, refused, accepted, checked_of}
use Rattle.tape.specs.Checked.{Checked, Good, Refused}
use Rattle.text.specs.Bounds.{printed_gates, printed_qubits}
use Rattle.text.specs.Print.{is_large}

abbrev pub large_of : Checked → Bool
large_of (Good h g l) = ltb printed_gates g || ltb printed_qubits h.n
large_of (Refused r p) = false

large_is : (p : Parsed) → large_of (checked_of p) ≡ is_large p
unfolding checked_of is_large
large_is (refused r p) = refl
large_is (accepted h c) = refl

pub large : (p : Parsed) (k : Checked) → k ≡ checked_of p → is_large p ≡ large_of k
large p k e = sym (ap large_of e ∙ large_is p)
