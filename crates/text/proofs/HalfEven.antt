-- Rounding half to even is what it should be (specs/HalfEven.antt): no whole number is nearer, and of two that are as near the even one is taken; and no other
-- number is such a one. Assumes nothing.
use mathlib.Core.Path.{◌≡◌, sym, ap, ◌∙◌, subst}
use mathlib.Core.Logic.{◌⊎◌, inl, inr}
use Prim.Native.Nat.{ℕ, suc, ◌+◌, ◌-◌, ◌*◌, ◌/◌, ◌%◌, ◌≤◌, ◌<◌}
use native.Mathlib.Nat.{div-add-mod, mod-lt, mul-le-mul_right, le_antisymm}
use native.Mathlib.Omega.{arith}
use Rattle.std.specs.Prelude.{◌≢◌}
use Rattle.std.proofs.lemmas.Bool.{cases_lt}
use Rattle.text.specs.Millionths.{rounded}
use Rattle.text.specs.HalfEven.{apart, NearestEven, HalfEven}
use Rattle.text.proofs.Rounding.{rounded-down, rounded-up, rounded-tie}

-- ---- the rule's number is such a one: num is q * den and m more

module _ (num den q m : ℕ) (split : den * q + m ≡ num) (less : m < den) where
  -- how far num is from the multiples of den, up to q * den and beyond
  at : apart num (q * den) ≡ m
  at = omega (arith, split)

  next : apart num (suc q * den) ≡ den - m
  next = omega (arith, split, less)

  low : (k : ℕ) → k ≤ q → m ≤ apart num (k * den)
  low k h = omega (arith, split, mul-le-mul_right den h)

  lower : (k : ℕ) → k < q → m + den ≤ apart num (k * den)
  lower k h = omega (arith, split, mul-le-mul_right {m = suc k} {n = q} den h)

  high : (k : ℕ) → q < k → den - m ≤ apart num (k * den)
  high k h = omega (arith, split, less, mul-le-mul_right {m = suc q} {n = k} den h)

  higher : (k : ℕ) → suc q < k → den - m + den ≤ apart num (k * den)
  higher k h = omega (arith, split, less, mul-le-mul_right {m = suc (suc q)} {n = k} den h)

  down : 2 * m < den → NearestEven num den q
  down h = record { nearest = λ k. near k (cases_lt q k); even = λ k n e. absurd (alone k n e (cases_lt q k)) }
    where
      near : (k : ℕ) → (q < k) ⊎ (k ≤ q) → apart num (q * den) ≤ apart num (k * den)
      near k (inl g) = omega (arith, at, high k g, h)
      near k (inr g) = omega (arith, at, low k g)

      alone : (k : ℕ) → k ≢ q → apart num (k * den) ≡ apart num (q * den) → (q < k) ⊎ (k ≤ q) → ⊥
      alone k n e (inl g) = omega (arith, at, e, high k g, h)
      alone k n e (inr g) = omega (arith, at, e, lower k (omega (arith, n, g)), less)

  up : den < 2 * m → NearestEven num den (suc q)
  up h = record { nearest = λ k. near k (cases_lt q k); even = λ k n e. absurd (alone k n e (cases_lt q k)) }
    where
      near : (k : ℕ) → (q < k) ⊎ (k ≤ q) → apart num (suc q * den) ≤ apart num (k * den)
      near k (inl g) = omega (arith, next, high k g)
      near k (inr g) = omega (arith, next, low k g, h)

      alone : (k : ℕ) → k ≢ suc q → apart num (k * den) ≡ apart num (suc q * den) → (q < k) ⊎ (k ≤ q) → ⊥
      alone k n e (inl g) = omega (arith, next, e, higher k (omega (arith, n, g)), less)
      alone k n e (inr g) = omega (arith, next, e, low k g, h)

  tie : 2 * m ≡ den → NearestEven num den (q + q % 2)
  tie h = record { nearest = λ k. near k (cases_lt q k) (cases_lt (q % 2) 1); even = λ k n e. omega arith }
    where
      taken : (q % 2 < 1) ⊎ (1 ≤ q % 2) → apart num ((q + q % 2) * den) ≡ m
      taken (inl g) = ap (λ r. apart num (r * den)) (omega (arith, g)) ∙ at
      taken (inr g) = ap (λ r. apart num (r * den)) (omega (arith, g, mod-lt q {m = 2} (omega arith))) ∙ next ∙ omega (arith, h)

      near : (k : ℕ) → (q < k) ⊎ (k ≤ q) → (q % 2 < 1) ⊎ (1 ≤ q % 2) → apart num ((q + q % 2) * den) ≤ apart num (k * den)
      near k (inl g) o = omega (arith, taken o, high k g, h)
      near k (inr g) o = omega (arith, taken o, low k g)

such : (num den : ℕ) → 0 < den → NearestEven num den (rounded num den)
such num den D = by (cases_lt (2 * m) den) (cases_lt den (2 * m))
  where
    q : ℕ
    q = num / den

    m : ℕ
    m = num % den

    by : (2 * m < den) ⊎ (den ≤ 2 * m) → (den < 2 * m) ⊎ (2 * m ≤ den) → NearestEven num den (rounded num den)
    by (inl h) o = subst (NearestEven num den) (sym (rounded-down num den h)) (down num den q m (div-add-mod num den) (mod-lt num D) h)
    by (inr g) (inl h) = subst (NearestEven num den) (sym (rounded-up num den h ∙ omega arith)) (up num den q m (div-add-mod num den) (mod-lt num D) h)
    by (inr g) (inr l) =
        let h : 2 * m ≡ den = le_antisymm l g in
        subst (NearestEven num den) (sym (rounded-tie num den h)) (tie num den q m (div-add-mod num den) (mod-lt num D) h)

-- ---- and no other number

-- two that are as near are even, so that a number lies between them, which is nearer
no-two : (num den r s : ℕ) → 0 < den → NearestEven num den r → NearestEven num den s → r < s → ⊥
no-two num den r s D one two h =
    let same : apart num (r * den) ≡ apart num (s * den) = le_antisymm (one.nearest s) (two.nearest r) in
    let even = one.even s (λ e. omega (arith, e, h)) (sym same) in
    let even' = two.even r (λ e. omega (arith, e, h)) same in
    let far : suc (suc r) ≤ s = omega (arith, even, even', h) in
    omega (arith, D, same, one.nearest (suc r), mul-le-mul_right den far)

only : (num den r s : ℕ) → 0 < den → NearestEven num den r → NearestEven num den s → r ≡ s
only num den r s D one two = by (cases_lt r s) (cases_lt s r)
  where
    by : (r < s) ⊎ (s ≤ r) → (s < r) ⊎ (r ≤ s) → r ≡ s
    by (inl h) o = absurd (no-two num den r s D one two h)
    by (inr g) (inl h) = absurd (no-two num den s r D two one h)
    by (inr g) (inr h) = le_antisymm h g

pub half-even : HalfEven
half-even num den r D =
    ((λ e. subst (NearestEven num den) (sym e) (such num den D)), λ h. only num den r (rounded num den) D h (such num den D))
