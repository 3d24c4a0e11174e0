-- Laws of the pivot search, as its loop goes: what is left to search from column j on gives what the whole row gives. Assumes nothing.
use mathlib.Core.Path.{◌≡◌, sym, ap, ◌∙◌}
use mathlib.Core.Bool.{Bool, true, false}
use Prim.Native.Nat.{ℕ, suc, ◌+◌, ◌-◌, ◌<◌}
use native.Mathlib.Omega.{arith}
use lib.Ieee.{Float, lt}
use Rattle.num.specs.Order.{abs_of}
use Rattle.pfaffian.specs.Pfaffian.{search, pivot_of}

pub search-start : (row : ℕ → Float) (k dim : ℕ) → search row (dim - (k + 2)) (k + 2) (abs_of (row (k + 1))) (k + 1) ≡ pivot_of row k dim
search-start row k dim =
    let two : k + 2 ≡ suc (suc k) = omega arith in
    let one : k + 1 ≡ suc k = omega arith in
    rw (two, one)

-- column j has a larger one, or not
module _ (row : ℕ → Float) (dim j piv : ℕ) (best v : Float) (h : j < dim) (e : v ≡ abs_of (row j)) where
  abbrev pick : Bool → Float × ℕ
  pick t = elim t [ true ↦ search row (dim - suc j) (suc j) (abs_of (row j)) j | false ↦ search row (dim - suc j) (suc j) best piv ]

  search-turn : (t : Bool) → lt best v ≡ t → search row (dim - j) j best piv ≡ pick t
  unfolding search
  search-turn t l =
      let n : dim - j ≡ suc (dim - suc j) = omega arith in
      ap (λ (i : ℕ). search row i j best piv) n ∙ ap pick (ap (lt best) (sym e) ∙ l)

  pub search-larger : lt best v ≡ true → search row (dim - (j + 1)) (j + 1) v j ≡ search row (dim - j) j best piv
  search-larger l =
      let s : j + 1 ≡ suc j = omega arith in
      rw (e, s) (sym (search-turn true l))

  pub search-smaller : lt best v ≡ false → search row (dim - (j + 1)) (j + 1) best piv ≡ search row (dim - j) j best piv
  search-smaller l =
      let s : j + 1 ≡ suc j = omega arith in
      rw s (sym (search-turn false l))

-- no column is left
pub search-done : (row : ℕ → Float) (dim j piv : ℕ) (best : Float) → dim - j ≡ 0 → search row (dim - j) j best piv ≡ (best, piv)
unfolding search
search-done row dim j piv best e = rw e
