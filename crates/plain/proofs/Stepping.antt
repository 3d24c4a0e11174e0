-- Laws of a step of the plain engine: rows and columns under the map, and the turn or none. Assumes nothing.
use mathlib.Core.Path.{◌≡◌, sym, ap, ◌∙◌}
use mathlib.Core.Bool.{Bool, true, false, cond}
use mathlib.Core.List.{List}
use Prim.Native.Nat.{ℕ, ◌*◌, ◌≤◌}
use lib.Dec.{leb}
use lib.ListN.{length}
use lib.Ieee.{Float, lt}
use Rattle.laws.specs.Zeros.{+0}
use Rattle.laws.specs.Matrix.{Mat, at, matrix}
use Rattle.laws.specs.Maps.{Local, rows, cols}
use Rattle.laws.proofs.Matrix.{Within, matrix-then}
use Rattle.laws.proofs.Negation.{negated-within}
use Rattle.local.specs.Det.{odd}
use Rattle.plain.specs.Plain.{turned_from, plain_step}

turn-within : (dim s : ℕ) (b : Bool) → Within dim (λ (f : Mat). cond b (turned_from s f) f)
turn-within dim s true = negated-within dim (λ i. leb s i)
turn-within dim s false = λ f g e. e

-- d is the determinant, as code has it
pub step-made : (o : Local) (s dim : ℕ) (d : Float) (m m₁ m₂ : List Float) → dim * dim ≤ length m → odd o ≡ lt d +0
    → m₁ ≡ matrix dim (cols o (rows o (at dim m))) m
    → m₂ ≡ matrix dim (cond (lt d +0) (turned_from s (at dim m₁)) (at dim m₁)) m₁ → m₂ ≡ matrix dim (plain_step o s (at dim m)) m
step-made o s dim d m m₁ m₂ room is e₁ e =
    matrix-then dim m m₁ m₂ (cols o (rows o (at dim m))) (λ f. cond (odd o) (turned_from s f) f) room (turn-within dim s (odd o)) e₁
    (e ∙ ap (λ b. matrix dim (cond b (turned_from s (at dim m₁)) (at dim m₁)) m₁) (sym is))
