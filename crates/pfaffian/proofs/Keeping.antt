-- Laws of `Kept`: a matrix made anew leaves what lies after it, and so does one step after another. Assumes nothing.
use mathlib.Core.Path.{◌≡◌, refl, ◌∙◌}
use mathlib.Core.List.{List}
use Prim.Native.Nat.{ℕ, ◌*◌, ◌≤◌}
use lib.ListN.{length}
use lib.Ieee.{Float}
use Rattle.laws.specs.Matrix.{Mat, matrix}
use Rattle.laws.proofs.Matrix.{matrix-is}
use Rattle.pfaffian.specs.Work.{Kept}
use Rattle.pfaffian.specs.Turns.{Corner}

module _ (dim : ℕ) where
  pub kept-matrix : (m m' : List Float) (f : Mat) → dim * dim ≤ length m → m' ≡ matrix dim f m → Kept dim m m'
  kept-matrix m m' f room e =
      let w = matrix-is dim m f m' room e in
      record { long = w.long; each = λ r c h g. refl; after = w.after }

  pub kept-corner : (k : ℕ) (m m' : List Float) (f : Mat) → Corner dim k m f m' → Kept dim m m'
  kept-corner k m m' f w = record { long = w.long; each = λ r c h g. refl; after = w.after }

  pub kept_then : (m₀ m m' : List Float) → Kept dim m₀ m → Kept dim m m' → Kept dim m₀ m'
  kept_then m₀ m m' w w' = record {
    long = w'.long ∙ w.long;
    each = λ r c h g. refl;
    after = λ i h. w'.after i h ∙ w.after i h;
  }
