-- The nearest f64 to a root: from whole numbers, that a larger number's is no smaller, and that there is one. Assumes nothing.
use mathlib.Core.Path.{◌≡◌, sym, ◌∙◌, subst}
use Prim.Native.Nat.{ℕ, zero, suc, ◌+◌, ◌*◌, ◌^◌, ◌≤◌, ◌<◌}
use native.Mathlib.Nat.{le_refl, le_of_lt, le_antisymm, lt_of_lt_of_le, lt_of_le_of_lt, lt_of_not-le, lt_irrefl, add_comm, mul-le-mul_left, mul-le-mul_right}
use native.Mathlib.Decide.{dec_le}
use mathlib.Core.Bool.{true, false}
use lib.Dec.{T}
use lib.Ieee.{Float, nan, inf, fin, binary64, fits}
use Rattle.num.specs.Root.{per_one, grains, plain, squared, Nearest, RootOf}
use Rattle.num.proofs.Middle.{Middle, middle-above, middle-below}
use Rattle.num.proofs.Grains.{grid, by-grains}

-- ---- from whole numbers

pub near : (x r : Float) (m q g : ℕ) → Middle m q → squared x ≡ m * (2 ^ g * 2 ^ g) → T (fits binary64 r) → T (plain r) → grains r ≡ q * 2 ^ g
    → Nearest x r
near x r m q g M X f p R = record {
  held = f;
  sign = p;
  above = λ y h l.
      let d = grid y h in
      rw (X, R, d.is) (middle-above m q d.n g d.k M d.short (rw (R, d.is) at l));
  below = λ y h l.
      let d = grid y h in
      rw (X, R, d.is) (middle-below m q d.n g d.k M d.short (rw (R, d.is) at l));
}

-- ---- the order of roots

pub nearest-mono : (x y r t : Float) → Nearest x r → Nearest y t → grains x ≤ grains y → grains r ≤ grains t
nearest-mono x y r t R S h = go (dec_le (grains r) (grains t))
  where
    -- the middle between r and t would lie below the root of x, and above that of y
    swap : (a b v w : ℕ) → (b + a) * (b + a) < v → v ≤ w → w < (a + b) * (a + b) → ⊥
    swap a b v w h l k = lt_irrefl v (lt_of_le_of_lt l (lt_of_lt_of_le k (le_of_lt (subst (λ (z : ℕ). z * z < v) (add_comm b a) h))))

    go : Dec (grains r ≤ grains t) → grains r ≤ grains t
    go (yes l) = l
    go (no f) =
        let l : grains t < grains r = lt_of_not-le f in
        absurd
        (swap (grains t) (grains r) (4 * squared x) (4 * squared y)
        (R.below t S.held l)
        (mul-le-mul_left 4 (mul-le-mul_right per_one h))
        (S.above r R.held l))

-- ---- there is one

pub nearest-unique : (x r t : Float) → Nearest x r → Nearest x t → r ≡ t
nearest-unique x r t R S =
    by-grains r t R.held S.held R.sign S.sign
    (le_antisymm (nearest-mono x x r t R S (le_refl (grains x))) (nearest-mono x x t r S R (le_refl (grains x))))

pub root-unique : (x r t : Float) → RootOf x r → RootOf x t → r ≡ t
unfolding RootOf
root-unique nan r t R S = R ∙ sym S
root-unique (inf true) r t R S = R ∙ sym S
root-unique (inf false) r t R S = R ∙ sym S
root-unique (fin true zero e) r t R S = R ∙ sym S
root-unique (fin false zero e) r t R S = R ∙ sym S
root-unique (fin true (suc m) e) r t R S = R ∙ sym S
root-unique (fin false (suc m) e) r t R S = nearest-unique (fin false (suc m) e) r t R S
