-- `sqrt_of` computes the root, so every f64 has one: by the whole part of a root, digit by digit. Its result is an f64, and not below zero where x is not.
-- Assumes nothing.
use mathlib.Core.Path.{◌≡◌, refl, sym, ap, ◌∙◌, subst}
use Prim.Native.Nat.{ℕ, zero, suc, ◌+◌, ◌-◌, ◌*◌, ◌/◌, ◌^◌, ◌≤◌, ◌<◌}
use native.Mathlib.Nat.{one-mul, le_trans, le_of_eq, lt_of_lt_of_le, lt_of_le_of_lt, lt_of_not-le, lt_irrefl, le_of_mul-le-mul_right, lt_of_mul-lt-mul_right, mul-le-mul_right, mul_assoc, mul-div_cancel, mul-pos, pow-succ'}
use native.Mathlib.Omega.{arith}
use mathlib.Core.Bool.{Bool, true, false, not, cond}
use lib.Dec.{T, leb, leb→le, nleb→lt}
use lib.Pow.{shl_lt, pow-add, pow_pos, pow_mono}
use lib.Ieee.{Float, nan, inf, fin, binary64, fits, size, odd}
use lib.Ieee.Digits.{size-lt, size-le, size_reaches}
use lib.Ieee.Fits.{nan-fits, odd-fits}
use Rattle.num.specs.Root.{per_one, grains, plain, squared, Nearest, RootOf, whole, root_at, sqrt_of}
use Rattle.num.proofs.Squares.{sq-mul, root-lt}
use Rattle.num.proofs.Middle.{middle}
use Rattle.num.proofs.Grains.{grid, grains-odd, plain-odd, some-grains}
use Rattle.num.proofs.Nearest.{near, root-unique}

-- ---- `whole k n` is the whole part of the root of n

-- q is the whole part of the root of n
abbrev Whole : ℕ → ℕ → Type 0
Whole n q = (q * q ≤ n) × (n < (q + 1) * (q + 1))

-- from that of n / 4: one digit more, by its test
digit : (n p : ℕ) → Whole (n / 4) p → (b : Bool) → (T b → (2 * p + 1) * (2 * p + 1) ≤ n) → (T (not b) → n < (2 * p + 1) * (2 * p + 1))
    → Whole n (cond b (2 * p + 1) (2 * p))
digit n p w true l g = (l tt, subst (λ (z : ℕ). n < z) (four p ∙ sym (ap (λ (z : ℕ). z * z) (two p))) (upper ((p + 1) * (p + 1)) w.1))
  where
    two : (p : ℕ) → 2 * p + 1 + 1 ≡ 2 * (p + 1)
    two p = omega arith

    four : (p : ℕ) → 4 * ((p + 1) * (p + 1)) ≡ 2 * (p + 1) * (2 * (p + 1))
    four p = sym (sq-mul 2 (p + 1))

    upper : (s : ℕ) → n / 4 < s → n < 4 * s
    upper s h = omega arith
digit n p w false l g = (subst (λ (z : ℕ). z ≤ n) (sym (sq-mul 2 p)) (lower (p * p) w.0), g tt)
  where
    lower : (s : ℕ) → s ≤ n / 4 → 4 * s ≤ n
    lower s h = omega arith

whole-root : (k n : ℕ) → n < 4 ^ k → Whole n (whole k n)
unfolding whole
whole-root zero n h = (omega arith, omega arith)
whole-root (suc k) n h =
    let p = whole k (n / 4) in
    let q = (2 * p + 1) * (2 * p + 1) in
    digit n p (whole-root k (n / 4) (quarter (4 ^ k) (subst (λ (z : ℕ). n < z) (pow-succ' 4 k) h))) (leb q n) (leb→le q n) (nleb→lt q n)
  where
    quarter : (s : ℕ) → n < 4 * s → n / 4 < s
    quarter s h = omega arith

-- ---- the number under the root is m * 4 ^ g, with an m of 105 or 106 digits

record Split (v g : ℕ) : Type 0 where
  pub m : ℕ
  pub is : v ≡ m * (2 ^ g * 2 ^ g)
  pub big : 2 ^ 104 ≤ m
  pub fine : m < 2 ^ 106

-- v is n * 2 ^ j and has z digits, and g is as `sqrt_of` has it
split : (v n j z g : ℕ) → v ≡ n * 2 ^ j → z ≤ 53 + j → 1074 < z → 2 ^ (z - 1) ≤ v → v < 2 ^ z → g ≡ (z - 105) / 2 → Split v g
split v n j z g e Z Z' lo hi G = record {
  m = n * 2 ^ (j - (g + g));
  is = is';
  big =
      le_of_mul-le-mul_right
      (le_trans (le_of_eq (sym (moved 104))) (le_trans (pow_mono (under g z G Z')) (le_trans lo (le_of_eq is'))))
      (mul-pos (pow_pos g) (pow_pos g));
  fine =
      lt_of_mul-lt-mul_right (2 ^ g * 2 ^ g)
      (lt_of_le_of_lt (le_of_eq (sym is')) (lt_of_lt_of_le hi (le_trans (pow_mono (over g z G Z')) (le_of_eq (moved 106)))));
}
  where
    room : (g z j : ℕ) → g ≡ (z - 105) / 2 → z ≤ 53 + j → j ≡ j - (g + g) + (g + g)
    room g z j G Z = omega arith

    under : (g z : ℕ) → g ≡ (z - 105) / 2 → 1074 < z → 104 + (g + g) ≤ z - 1
    under g z G Z = omega arith

    over : (g z : ℕ) → g ≡ (z - 105) / 2 → 1074 < z → z ≤ 106 + (g + g)
    over g z G Z = omega arith

    moved : (d : ℕ) → 2 ^ (d + (g + g)) ≡ 2 ^ d * (2 ^ g * 2 ^ g)
    moved d = pow-add 2 d (g + g) ∙ ap (λ (y : ℕ). 2 ^ d * y) (pow-add 2 g g)

    is' : v ≡ n * 2 ^ (j - (g + g)) * (2 ^ g * 2 ^ g)
    is' =
        e
        ∙ ap (λ (y : ℕ). n * y) (ap (λ (y : ℕ). 2 ^ y) (room g z j G Z) ∙ moved (j - (g + g)))
        ∙ sym (mul_assoc n (2 ^ (j - (g + g))) (2 ^ g * 2 ^ g))

-- ---- the root of a number above zero

root-at : (x : Float) (v g : ℕ) → squared x ≡ v → g < 2000 → Split v g → Nearest x (root_at v g)
unfolding root_at
root-at x v g X G S =
    near x (odd 54 false r g 1074) S.m r g
    (middle S.m q r w.0 w.1 refl S.big)
    (X ∙ S.is)
    (odd-fits binary64 54 false r g (more r r-le) r-le (lt_of_lt_of_le (shl_lt 54 g (more r r-le)) (pow_mono (room g G))))
    (plain-odd 54 r g 1074)
    (grains-odd 54 false r g)
  where
    m-is : v / (2 ^ g * 2 ^ g) ≡ S.m
    m-is = ap (λ (y : ℕ). y / (2 ^ g * 2 ^ g)) S.is ∙ mul-div_cancel S.m (mul-pos (pow_pos g) (pow_pos g))

    q : ℕ
    q = whole 54 (4 * (v / (2 ^ g * 2 ^ g)))

    r : ℕ
    r = (q + 1) / 2

    four : (m : ℕ) → m < 2 ^ 106 → 4 * m < 4 ^ 54
    four m h = omega arith

    w : Whole (4 * S.m) q
    w =
        subst (λ (y : ℕ). Whole (4 * y) q) m-is
        (whole-root 54 (4 * (v / (2 ^ g * 2 ^ g))) (subst (λ (y : ℕ). 4 * y < 4 ^ 54) (sym m-is) (four S.m S.fine)))

    half : (q : ℕ) → q < 2 ^ 54 → (q + 1) / 2 ≤ 2 ^ 53
    half q h = omega arith

    r-le : r ≤ 2 ^ 53
    r-le = half q (root-lt q (2 ^ 54) (lt_of_le_of_lt w.0 (four S.m S.fine)))

    more : (r : ℕ) → r ≤ 2 ^ 53 → r < 2 ^ 54
    more r h = omega arith

    room : (g : ℕ) → g < 2000 → 54 + g ≤ 1074 + 1024
    room g h = omega arith

pow_lt_back : (a z : ℕ) → 2 ^ a < 2 ^ z → a < z
pow_lt_back a z h = lt_of_not-le (λ (g : z ≤ a). lt_irrefl (2 ^ a) (lt_of_lt_of_le h (pow_mono g)))

finite-root : (x : Float) → T (fits binary64 x) → 0 < grains x → Nearest x (root_at (squared x) ((size (squared x) - 105) / 2))
finite-root x f p =
    let d = grid x f in
    let v = squared x in
    let z = size v in
    let j = d.k + 1074 in
    let e : v ≡ d.n * 2 ^ j =
    ap (λ (y : ℕ). y * per_one) d.is ∙ mul_assoc d.n (2 ^ d.k) per_one ∙ ap (λ (y : ℕ). d.n * y) (sym (pow-add 2 d.k 1074)) in
    let zj : z ≤ 53 + j = size-le v (53 + j) (subst (λ (y : ℕ). y < 2 ^ (53 + j)) (sym e) (shl_lt 53 j d.short)) in
    let lots : per_one ≤ v = le_trans (le_of_eq (sym (one-mul per_one))) (mul-le-mul_right per_one p) in
    let zl : 1074 < z = pow_lt_back 1074 z (lt_of_le_of_lt lots (size-lt v)) in
    root-at x v ((z - 105) / 2) refl (small z d.k zj d.few)
    (split v d.n j z ((z - 105) / 2) e zj zl (size_reaches v (z - 1) (pre z zl)) (size-lt v) refl)
  where
    small : (z k : ℕ) → z ≤ 53 + (k + 1074) → k < 2047 → (z - 105) / 2 < 2000
    small z k h l = omega arith

    pre : (z : ℕ) → 1074 < z → z - 1 < z
    pre z h = omega arith

-- ---- the laws

pub sqrt_of-root : (x : Float) → T (fits binary64 x) → RootOf x (sqrt_of x)
unfolding RootOf sqrt_of
sqrt_of-root nan f = refl
sqrt_of-root (inf true) f = refl
sqrt_of-root (inf false) f = refl
sqrt_of-root (fin true zero e) f = refl
sqrt_of-root (fin false zero e) f = refl
sqrt_of-root (fin true (suc m) e) f = refl
sqrt_of-root (fin false (suc m) e) f = finite-root (fin false (suc m) e) f (some-grains m e f)

-- so a root is what `sqrt_of` computes
pub root_is : (x r : Float) → T (fits binary64 x) → RootOf x r → r ≡ sqrt_of x
root_is x r f R = root-unique x r (sqrt_of x) R (sqrt_of-root x f)

pub sqrt_of-fits : (x : Float) → T (fits binary64 x) → T (fits binary64 (sqrt_of x))
unfolding sqrt_of
sqrt_of-fits nan f = nan-fits binary64
sqrt_of-fits (inf true) f = nan-fits binary64
sqrt_of-fits (inf false) f = f
sqrt_of-fits (fin true zero e) f = f
sqrt_of-fits (fin false zero e) f = f
sqrt_of-fits (fin true (suc m) e) f = nan-fits binary64
sqrt_of-fits (fin false (suc m) e) f = (finite-root (fin false (suc m) e) f (some-grains m e f)).held

pub sqrt_of-plain : (x : Float) → T (fits binary64 x) → T (plain x) → T (plain (sqrt_of x))
unfolding sqrt_of
sqrt_of-plain nan f p = p
sqrt_of-plain (inf s) f p = absurd p
sqrt_of-plain (fin true m e) f p = absurd p
sqrt_of-plain (fin false zero e) f p = tt
sqrt_of-plain (fin false (suc m) e) f p = (finite-root (fin false (suc m) e) f (some-grains m e f)).sign
