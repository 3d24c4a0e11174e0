-- The root keeps the order, so the root of the larger of two f64 is the larger of their roots: for all of them, NaN, infinities and both zeros included.
-- By cases on the first; where both are finite and not below zero, by their grains. Assumes nothing.
use mathlib.Core.Path.{◌≡◌, refl, sym, ap, ◌∙◌, subst}
use mathlib.Core.Logic.{◌⊎◌, inl, inr}
use Prim.Native.Nat.{ℕ, zero, suc, ◌+◌, ◌*◌, ◌≤◌, ◌<◌, zero-le}
use native.Mathlib.Nat.{zero-lt-suc, le_of_lt, le_of_eq, lt_of_not-le, not-le_of_lt, eq-or-lt_of_le, mul-pos}
use native.Mathlib.Omega.{arith}
use native.Mathlib.Decide.{dec_le}
use lib.IntN.{ℤ, negsuc}
use mathlib.Core.Bool.{true, false}
use lib.Dec.{T, ltb}
use lib.Pow.{pow_pos}
use lib.Ieee.{Float, nan, inf, fin, binary64, fits, up, down, is_nan, lt}
use lib.Ieee.Scale.{finite}
use borrow.Author.Tests.{lt-ltb, le-ltb}
use Rattle.laws.proofs.Zeros.{flat, more}
use Rattle.num.specs.Root.{per_one, grains, plain, Nearest, RootOf, sqrt_of}
use Rattle.num.specs.Order.{max_of}
use Rattle.num.proofs.Grains.{plain-number, plain-finite, zero-grains, some-grains, by-grains, plain-lt}
use Rattle.num.proofs.Nearest.{nearest-mono}
use Rattle.num.proofs.SqrtOf.{sqrt_of-root, sqrt_of-fits, sqrt_of-plain}
use Rattle.num.proofs.OrderLaws.{max-nan, max-nan-right, max-first, max-second, max-either}

-- ---- the root keeps the order

pub root-mono : (a b : Float) → T (fits binary64 a) → T (fits binary64 b) → T (plain a) → T (plain b) → grains a ≤ grains b
    → grains (sqrt_of a) ≤ grains (sqrt_of b)
unfolding sqrt_of RootOf
root-mono (fin false zero e) b f g p q h = subst (λ (z : ℕ). z ≤ grains (sqrt_of b)) (sym (zero-grains false e)) zero-le
root-mono (fin false (suc m) e) (fin false zero d) f g p q h =
    absurd (not-le_of_lt (some-grains m e f) (subst (λ (z : ℕ). grains (fin false (suc m) e) ≤ z) (zero-grains false d) h))
root-mono (fin false (suc m) e) (fin false (suc n) d) f g p q h =
    nearest-mono (fin false (suc m) e) (fin false (suc n) d) _ _ (sqrt_of-root (fin false (suc m) e) f) (sqrt_of-root (fin false (suc n) d) g) h
root-mono (fin false (suc m) e) (fin true n d) f g p q h = absurd q
root-mono (fin false (suc m) e) nan f g p q h = absurd q
root-mono (fin false (suc m) e) (inf t) f g p q h = absurd q
root-mono (fin true m e) b f g p q h = absurd p
root-mono nan b f g p q h = absurd p
root-mono (inf s) b f g p q h = absurd p

-- the root of what is above zero is above zero: it is nearer than zero to the smallest f64
pub some-root : (x r : Float) → Nearest x r → 0 < grains x → 0 < grains r
unfolding grains fits
some-root x r N h = go (grains r) (grains x) h (N.above (fin false 1 (negsuc 1073)) tt)
  where
    go : (g c : ℕ) → 0 < c → (g < 1 → 4 * (c * per_one) < (g + 1) * (g + 1)) → 0 < g
    go zero c h k = absurd (no (c * per_one) (mul-pos h (pow_pos 1074)) (k (zero-lt-suc zero)))
      where
        no : (v : ℕ) → 0 < v → 4 * v < 1 → ⊥
        no v h k = omega arith
    go (suc g) c h k = zero-lt-suc g

-- ---- comparisons

-- a number below zero is below a zero and below what has no minus sign
minus-zero : (m : ℕ) (e d : ℤ) → lt (fin true (suc m) e) (fin true zero d) ≡ true
unfolding lt
minus-zero m e d = ap (λ (z : ℕ). ltb z (suc m * up e * down d)) (flat (up d) (down e)) ∙ lt-ltb 0 (suc m * up e * down d) (more m e d)

minus-plain : (m n : ℕ) (e d : ℤ) → lt (fin true (suc m) e) (fin false n d) ≡ true
unfolding lt
minus-plain m n e d = lt-ltb 0 (suc m * up e * down d + n * up d * down e) (omega (arith, more m e d))

-- -0.0 is not below a number below zero, and is below one above zero
zero_minus : (n : ℕ) (e d : ℤ) → lt (fin true zero e) (fin true (suc n) d) ≡ false
unfolding lt
zero_minus n e d = ap (λ (z : ℕ). ltb (suc n * up d * down e) z) (flat (up e) (down d)) ∙ le-ltb (suc n * up d * down e) 0 zero-le

zero-some : (e : ℤ) (y : Float) → T (plain y) → 0 < grains y → lt (fin true zero e) y ≡ true
unfolding lt
zero-some e nan p h = absurd p
zero-some e (inf t) p h = absurd p
zero-some e (fin true n d) p h = absurd p
zero-some e (fin false zero d) p h = absurd (omega (arith, zero-grains false d))
zero-some e (fin false (suc n) d) p h = lt-ltb 0 (0 * up e * down d + suc n * up d * down e) (omega (arith, more n d e))

-- ---- the larger, with a special operand

max-inf : (b : Float) → max_of (inf false) b ≡ inf false
unfolding max_of is_nan lt
max-inf nan = refl
max-inf (inf s) = refl
max-inf (fin s m e) = refl

max-inf-right : (a : Float) → T (finite a) → max_of a (inf false) ≡ inf false
unfolding max_of is_nan lt
max-inf-right nan h = absurd h
max-inf-right (inf s) h = absurd h
max-inf-right (fin s m e) h = refl

max-minus-inf-right : (a : Float) → T (finite a) → max_of a (inf true) ≡ a
unfolding max_of is_nan lt
max-minus-inf-right nan h = absurd h
max-minus-inf-right (inf s) h = absurd h
max-minus-inf-right (fin s m e) h = refl

max-minus-right : (a : Float) (n : ℕ) (d : ℤ) → T (plain a) → max_of a (fin true n d) ≡ a
unfolding max_of is_nan lt
max-minus-right nan n d p = absurd p
max-minus-right (inf s) n d p = absurd p
max-minus-right (fin true m e) n d p = absurd p
max-minus-right (fin false m e) n d p = refl

-- ---- the law, by what decides it

abbrev Commutes : Float → Float → Type 0
Commutes a b = sqrt_of (max_of a b) ≡ max_of (sqrt_of a) (sqrt_of b)

-- the first is the larger on both sides
firsts : (a b : Float) → max_of a b ≡ a → max_of (sqrt_of a) (sqrt_of b) ≡ sqrt_of a → Commutes a b
firsts a b h k = ap sqrt_of h ∙ sym k

-- the second is
seconds : (a b : Float) → max_of a b ≡ b → max_of (sqrt_of a) (sqrt_of b) ≡ sqrt_of b → Commutes a b
seconds a b h k = ap sqrt_of h ∙ sym k

-- the first has no root
rootless : (a b : Float) → sqrt_of a ≡ nan → sqrt_of (max_of a b) ≡ sqrt_of b → Commutes a b
rootless a b n h = h ∙ sym (ap (λ (z : Float). max_of z (sqrt_of b)) n ∙ max-nan (sqrt_of b))

-- neither has
both-rootless : (a b : Float) → sqrt_of a ≡ nan → sqrt_of b ≡ nan → Commutes a b
both-rootless a b n h = rootless a b n (max-either (λ z. sqrt_of z ≡ nan) a b n h ∙ sym h)

-- both are their own roots
own-roots : (a b : Float) → sqrt_of a ≡ a → sqrt_of b ≡ b → Commutes a b
own-roots a b h k = max-either (λ z. sqrt_of z ≡ z) a b h k ∙ sym (ap (λ (z : Float). max_of z (sqrt_of b)) h ∙ ap (max_of a) k)

-- ---- both are finite and not below zero

both-plain : (a b : Float) → T (fits binary64 a) → T (fits binary64 b) → T (plain a) → T (plain b) → Commutes a b
both-plain a b f g p q = go (dec_le (grains b) (grains a))
  where
    ra : Float
    ra = sqrt_of a

    rb : Float
    rb = sqrt_of b

    w : (grains a < grains b → lt a b ≡ true) × (grains b ≤ grains a → lt a b ≡ false)
    w = plain-lt a b f g p q

    v : (grains ra < grains rb → lt ra rb ≡ true) × (grains rb ≤ grains ra → lt ra rb ≡ false)
    v = plain-lt ra rb (sqrt_of-fits a f) (sqrt_of-fits b g) (sqrt_of-plain a f p) (sqrt_of-plain b g q)

    number : is_nan a ≡ false
    number = plain-number a p

    root-number : is_nan ra ≡ false
    root-number = plain-number ra (sqrt_of-plain a f p)

    -- a is below b, and their roots may be the same
    up_to : grains a < grains b → (grains ra ≡ grains rb) ⊎ (grains ra < grains rb) → Commutes a b
    up_to l (inl e) =
        seconds a b (max-second a b number (w.0 l))
        (max-first ra rb root-number (v.1 (le_of_eq (sym e)))
        ∙ by-grains ra rb (sqrt_of-fits a f) (sqrt_of-fits b g) (sqrt_of-plain a f p) (sqrt_of-plain b g q) e)
    up_to l (inr k) = seconds a b (max-second a b number (w.0 l)) (max-second ra rb root-number (v.0 k))

    go : Dec (grains b ≤ grains a) → Commutes a b
    go (yes l) = firsts a b (max-first a b number (w.1 l)) (max-first ra rb root-number (v.1 (root-mono b a g f q p l)))
    go (no n) =
        let l : grains a < grains b = lt_of_not-le n in
        up_to l (eq-or-lt_of_le (root-mono a b f g p q (le_of_lt l)))

-- ---- the first is finite

plain-first : (a b : Float) → T (fits binary64 a) → T (fits binary64 b) → T (plain a) → Commutes a b
unfolding sqrt_of
plain-first a nan f g p = firsts a nan (max-nan-right a) (max-nan-right (sqrt_of a))
plain-first a (inf true) f g p = firsts a (inf true) (max-minus-inf-right a (plain-finite a p)) (max-nan-right (sqrt_of a))
plain-first a (inf false) f g p =
    seconds a (inf false) (max-inf-right a (plain-finite a p)) (max-inf-right (sqrt_of a) (plain-finite (sqrt_of a) (sqrt_of-plain a f p)))
plain-first a (fin true zero d) f g p = firsts a (fin true zero d) (max-minus-right a zero d p) (max-minus-right (sqrt_of a) zero d (sqrt_of-plain a f p))
plain-first a (fin true (suc n) d) f g p = firsts a (fin true (suc n) d) (max-minus-right a (suc n) d p) (max-nan-right (sqrt_of a))
plain-first a (fin false n d) f g p = both-plain a (fin false n d) f g p tt

-- -0.0 is its own root
minus-zero-first : (e : ℤ) (b : Float) → T (fits binary64 b) → Commutes (fin true zero e) b
unfolding sqrt_of RootOf is_nan
minus-zero-first e nan g = firsts (fin true zero e) nan (max-nan-right (fin true zero e)) (max-nan-right (fin true zero e))
minus-zero-first e (inf true) g = firsts (fin true zero e) (inf true) (max-minus-inf-right (fin true zero e) tt) (max-nan-right (fin true zero e))
minus-zero-first e (inf false) g = own-roots (fin true zero e) (inf false) refl refl
minus-zero-first e (fin true zero d) g = own-roots (fin true zero e) (fin true zero d) refl refl
minus-zero-first e (fin false zero d) g = own-roots (fin true zero e) (fin false zero d) refl refl
minus-zero-first e (fin true (suc n) d) g =
    firsts (fin true zero e) (fin true (suc n) d)
    (max-first (fin true zero e) (fin true (suc n) d) refl (zero_minus n e d))
    (max-nan-right (fin true zero e))
minus-zero-first e (fin false (suc n) d) g =
    let b = fin false (suc n) d in
    let r = sqrt_of b in
    seconds (fin true zero e) b
    (max-second (fin true zero e) b refl (zero-some e b tt (some-grains n d g)))
    (max-second (fin true zero e) r refl (zero-some e r (sqrt_of-plain b g tt) (some-root b r (sqrt_of-root b g) (some-grains n d g))))

-- what is below zero has no root, and is below all that has one
minus-first : (m : ℕ) (e : ℤ) (b : Float) → Commutes (fin true (suc m) e) b
unfolding sqrt_of is_nan
minus-first m e nan = both-rootless (fin true (suc m) e) nan refl refl
minus-first m e (inf true) = both-rootless (fin true (suc m) e) (inf true) refl refl
minus-first m e (inf false) = rootless (fin true (suc m) e) (inf false) refl (ap sqrt_of (max-inf-right (fin true (suc m) e) tt))
minus-first m e (fin true (suc n) d) = both-rootless (fin true (suc m) e) (fin true (suc n) d) refl refl
minus-first m e (fin true zero d) =
    rootless (fin true (suc m) e) (fin true zero d) refl (ap sqrt_of (max-second (fin true (suc m) e) (fin true zero d) refl (minus-zero m e d)))
minus-first m e (fin false n d) =
    rootless (fin true (suc m) e) (fin false n d) refl (ap sqrt_of (max-second (fin true (suc m) e) (fin false n d) refl (minus-plain m n e d)))

-- ---- the first is an infinity

minus-inf-first : (b : Float) → Commutes (inf true) b
unfolding sqrt_of max_of is_nan lt
minus-inf-first nan = refl
minus-inf-first (inf true) = refl
minus-inf-first (inf false) = refl
minus-inf-first (fin t n d) = refl

inf-first : (b : Float) → Commutes (inf false) b
unfolding sqrt_of
inf-first b = firsts (inf false) b (max-inf b) (max-inf (sqrt_of b))

-- ---- the law

pub sqrt-max : (a b : Float) → T (fits binary64 a) → T (fits binary64 b) → sqrt_of (max_of a b) ≡ max_of (sqrt_of a) (sqrt_of b)
unfolding sqrt_of
sqrt-max nan b f g = rootless nan b refl (ap sqrt_of (max-nan b))
sqrt-max (inf true) b f g = minus-inf-first b
sqrt-max (inf false) b f g = inf-first b
sqrt-max (fin true zero e) b f g = minus-zero-first e b g
sqrt-max (fin true (suc m) e) b f g = minus-first m e b
sqrt-max (fin false m e) b f g = plain-first (fin false m e) b f g tt
