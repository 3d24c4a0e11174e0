-- Tests over all cases that compute: both bits, the four places; and what holds of each case where such a test passes. Assumes nothing.
use mathlib.Core.Bool.{Bool, true, false, ◌&&◌}
use Prim.Native.Nat.{ℕ, zero, suc, ◌<◌}
use native.Mathlib.Nat.{not-suc-le-zero, le_of_suc-le-suc}
use lib.Dec.{T}
use lib.Ieee.Fits.{and_l, and_r}

-- ---- bits, places

abbrev pub every_bit : (Bool → Bool) → Bool
every_bit p = p false && p true

pub at-bit : (p : Bool → Bool) → T (every_bit p) → (b : Bool) → T (p b)
at-bit p t false = and_l (p false) (p true) t
at-bit p t true = and_r (p false) (p true) t

-- the places below n
abbrev pub every_place : ℕ → (ℕ → Bool) → Bool
every_place zero p = true
every_place (suc n) p = p zero && every_place n (λ i. p (suc i))

pub at_place : (n : ℕ) (p : ℕ → Bool) → T (every_place n p) → (i : ℕ) → i < n → T (p i)
at_place zero p t i h = absurd (not-suc-le-zero h)
at_place (suc n) p t zero h = and_l (p zero) (every_place n (λ i. p (suc i))) t
at_place (suc n) p t (suc i) h = at_place n (λ i. p (suc i)) (and_r (p zero) (every_place n (λ i. p (suc i))) t) i (le_of_suc-le-suc h)

-- four tests in one
pub both-pairs : (a b c d : Bool) → T ((a && b) && (c && d)) → T a × T b × T c × T d
both-pairs a b c d t =
    let l = and_l (a && b) (c && d) t in
    let r = and_r (a && b) (c && d) t in
    (and_l a b l, and_r a b l, and_l c d r, and_r c d r)

-- ---- a property of the places below n, one by one

abbrev pub Each : ℕ → (ℕ → Type 0) → Type 0
Each zero P = Unit {0}
Each (suc n) P = P zero × Each n (λ i. P (suc i))

pub at_each : (n : ℕ) (P : ℕ → Type 0) → Each n P → (i : ℕ) → i < n → P i
at_each zero P e i h = absurd (not-suc-le-zero h)
at_each (suc n) P e zero h = e.0
at_each (suc n) P e (suc i) h = at_each n (λ i. P (suc i)) e.1 i (le_of_suc-le-suc h)
