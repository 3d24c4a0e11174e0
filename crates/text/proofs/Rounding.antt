-- What rounding makes of a fraction, by what is cut off; it depends on the fraction only. Assumes nothing.
use mathlib.Core.Path.{◌≡◌, refl, sym, ap, ◌∙◌}
use mathlib.Core.Bool.{Bool, true, false, cond}
use Prim.Native.Nat.{ℕ, ◌+◌, ◌*◌, ◌/◌, ◌%◌, ◌≤◌, ◌<◌}
use native.Mathlib.Nat.{div-add-mod, div-eq_of_lt, mod-eq_of_lt, mod-lt, lt_of_mul-lt-mul_right, mul-lt-mul_of_pos_right}
use native.Mathlib.Omega.{arith}
use lib.Dec.{ltb}
use lib.Ieee.Nearest.{div_same}
use Rattle.std.proofs.lemmas.Bool.{lt-ltb, le-ltb, ltb-true, ltb_from_iff}
use Rattle.text.specs.Millionths.{rounded}

-- ---- by what is cut off

-- whether it is below a half, whether it is above one, and the quotient
abbrev by : Bool → Bool → ℕ → ℕ
by below above cut = cond below cut (cond above (cut + 1) (cut + cut % 2))

-- the same three, in whatever form
rounded-by : (num den : ℕ) {below above : Bool}
    → ltb (2 * (num % den)) den ≡ below → ltb den (2 * (num % den)) ≡ above → rounded num den ≡ by below above (num / den)
unfolding rounded
rounded-by num den {below} f g = ap (λ b. by b (ltb den (2 * (num % den))) (num / den)) f ∙ ap (λ a. by below a (num / den)) g

pub rounded-down : (num den : ℕ) → 2 * (num % den) < den → rounded num den ≡ num / den
rounded-down num den h = rounded-by num den (lt-ltb _ _ h) refl

pub rounded-up : (num den : ℕ) → den < 2 * (num % den) → rounded num den ≡ num / den + 1
rounded-up num den h = rounded-by num den (le-ltb _ _ (omega (arith, h))) (lt-ltb _ _ h)

pub rounded-tie : (num den : ℕ) → 2 * (num % den) ≡ den → rounded num den ≡ num / den + num / den % 2
rounded-tie num den h = rounded-by num den (le-ltb _ _ (omega (arith, h))) (le-ltb _ _ (omega (arith, h)))

-- ---- sizes

pub rounded-most : (num den : ℕ) → rounded num den ≤ num / den + 1
unfolding rounded
rounded-most num den = most (ltb (2 * (num % den)) den) (ltb den (2 * (num % den))) (num / den)
  where
    most : (b a : Bool) (cut : ℕ) → by b a cut ≤ cut + 1
    most true a cut = omega arith
    most false true cut = omega arith
    most false false cut = omega (arith, mod-lt cut {m = 2} (omega arith))

-- less than a half
pub rounded-none : (num den : ℕ) → 2 * num < den → rounded num den ≡ 0
rounded-none num den h =
    let l : num < den = omega (arith, h) in
    rounded-down num den (omega (arith, h, mod-eq_of_lt l)) ∙ div-eq_of_lt l

-- ---- equal fractions

-- two numbers, both times k, are two others, both times l
below-same : (a b c d k l : ℕ) → 0 < k → a * k ≡ c * l → b * k ≡ d * l → a < b → c < d
below-same a b c d k l K e f h = lt_of_mul-lt-mul_right l {m = c} {n = d} (omega (arith, e, f, mul-lt-mul_of_pos_right h K))

test-same : (a b c d k l : ℕ) → 0 < k → 0 < l → a * k ≡ c * l → b * k ≡ d * l → ltb a b ≡ ltb c d
test-same a b c d k l K L e f =
    ltb_from_iff ((λ h. below-same a b c d k l K e f (ltb-true a b h)), λ h. lt-ltb a b (below-same c d a b l k L (sym e) (sym f) h))

-- what is cut off, the quotient being one
left-same : (a b c d : ℕ) → 0 < b → 0 < d → a * d ≡ c * b → 2 * (a % b) * d ≡ 2 * (c % d) * b
left-same a b c d B D e =
    let q = c / d in
    let first : b * q + a % b ≡ a = ap (λ z. b * z + a % b) (sym (div_same a b c d B D e)) ∙ div-add-mod a b in
    cancel q (a % b) (c % d) (ap (λ z. z * d) first ∙ e ∙ ap (λ z. z * b) (sym (div-add-mod c d)))
  where
    cancel : (q x y : ℕ) → (b * q + x) * d ≡ (d * q + y) * b → 2 * x * d ≡ 2 * y * b
    cancel q x y e = grind arith

pub rounded-same : (a b c d : ℕ) → 0 < b → 0 < d → a * d ≡ c * b → rounded a b ≡ rounded c d
unfolding rounded
rounded-same a b c d B D e =
    let l = left-same a b c d B D e in
    let m : b * d ≡ d * b = omega arith in
    rounded-by a b (test-same (2 * (a % b)) b (2 * (c % d)) d d b D B l m) (test-same b (2 * (a % b)) d (2 * (c % d)) d b D B m l)
    ∙ ap (by _ _) (div_same a b c d B D e)
