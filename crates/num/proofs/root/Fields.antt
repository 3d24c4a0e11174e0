-- From the numbers that `root_bits` works out to the values of the patterns: how a pattern is read and written, and the power of two that the root takes.
-- Assumes nothing.
use mathlib.Core.Path.{◌≡◌, refl, sym, ap, ◌∙◌, subst}
use mathlib.Core.Logic.{◌⊎◌, inl, inr}
use Prim.Native.Nat.{ℕ, zero, suc, ◌+◌, ◌-◌, ◌*◌, ◌/◌, ◌%◌, ◌^◌, ◌≤◌, ◌<◌}
use native.Mathlib.Nat.{add_comm, add-sub_of_le, mul_assoc, mul-one, eq-or-lt_of_le}
use native.Mathlib.Omega.{arith}
use mathlib.Core.Bool.{Bool, false, not, cond}
use lib.Dec.{T, leb, eqb, eqb→eq, not_T}
use lib.Arith.{lt→nleb}
use lib.Pow.{pow-add}
use lib.Ieee.{Float, nan, inf, binary64, odd, is_nan, of_bits, of_fields}
use lib.Ieee.Bits.{is_false, cond_no, of_bits-fits, nan_bits_is}
use Rattle.num.specs.Root.{per_one, grains, plain}
use Rattle.num.specs.Bits.{inf_bits}
use Rattle.num.specs.Parts.{Moved, PartsOf, Evened, Rounded, RootBits}
use Rattle.num.proofs.Middle.{Middle}
use Rattle.num.proofs.Grains.{grains-odd, plain-odd}
use Rattle.num.proofs.Nearest.{near}
use Rattle.num.proofs.root.Tested.{in-middle, short}

-- ---- reading a pattern below the infinity's

of_bits_is : (b : ℕ) → of_bits binary64 b ≡ of_fields binary64 (leb (2 ^ 63) b) (b % 2 ^ 63 / 2 ^ 52) (b % 2 ^ 52)
unfolding of_bits
of_bits_is b = refl

read : (b e t : ℕ) → b < 2 ^ 63 → b / 2 ^ 52 ≡ e → b % 2 ^ 52 ≡ t → of_bits binary64 b ≡ of_fields binary64 false e t
read b e t h p q =
    of_bits_is b
    ∙ ap (λ (s : Bool). of_fields binary64 s (b % 2 ^ 63 / 2 ^ 52) (b % 2 ^ 52)) (is_false (leb (2 ^ 63) b) (lt→nleb (2 ^ 63) b h))
    ∙ ap (λ (x : ℕ). of_fields binary64 false x (b % 2 ^ 52)) (high b e h p)
    ∙ ap (λ (x : ℕ). of_fields binary64 false e x) q
  where
    high : (b e : ℕ) → b < 2 ^ 63 → b / 2 ^ 52 ≡ e → b % 2 ^ 63 / 2 ^ 52 ≡ e
    high b e h p = omega arith

read-zero : (t : ℕ) → of_fields binary64 false 0 t ≡ odd 53 false t 0 1074
unfolding of_fields
read-zero t = refl

read-suc : (x t : ℕ) → suc x < 2047 → of_fields binary64 false (suc x) t ≡ odd 53 false (2 ^ 52 + t) x 1074
unfolding of_fields
read-suc x t h =
    cond_no (eqb (suc x) 2047) (cond (eqb t 0) (inf false) nan) (odd 53 false (2 ^ 52 + t) x 1074)
    (not_T (eqb (suc x) 2047) (λ u. no (suc x) (eqb→eq (suc x) 2047 u) h))
  where
    no : (y : ℕ) → y ≡ 2047 → y < 2047 → ⊥
    no y e h = omega arith

-- the grains of a normal and of a subnormal number
pub normal : (b e : ℕ) → b < inf_bits → b / 2 ^ 52 ≡ suc e → grains (of_bits binary64 b) ≡ (b % 2 ^ 52 + 2 ^ 52) * 2 ^ e
normal b e B h =
    ap grains (read b (suc e) (b % 2 ^ 52) (pos b B) h refl ∙ read-suc e (b % 2 ^ 52) (field b e B h))
    ∙ grains-odd 53 false (2 ^ 52 + b % 2 ^ 52) e
    ∙ ap (λ (z : ℕ). z * 2 ^ e) (add_comm (2 ^ 52) (b % 2 ^ 52))
  where
    pos : (b : ℕ) → b < inf_bits → b < 2 ^ 63
    pos b h = omega arith

    field : (b e : ℕ) → b < inf_bits → b / 2 ^ 52 ≡ suc e → suc e < 2047
    field b e B h = omega arith

pub subnormal : (b : ℕ) → b < 2 ^ 52 → grains (of_bits binary64 b) ≡ b * 1
subnormal b h = ap grains (read b 0 b (pos b h) (none b h) (whole b h) ∙ read-zero b) ∙ grains-odd 53 false b 0
  where
    pos : (b : ℕ) → b < 2 ^ 52 → b < 2 ^ 63
    pos b h = omega arith

    none : (b : ℕ) → b < 2 ^ 52 → b / 2 ^ 52 ≡ 0
    none b h = omega arith

    whole : (b : ℕ) → b < 2 ^ 52 → b % 2 ^ 52 ≡ b
    whole b h = omega arith

-- ---- writing one: r's leading digit adds the 1 to the field

write : (g r : ℕ) → g < 2045 → 2 ^ 52 ≤ r → r < 2 ^ 53 → of_bits binary64 (g * 2 ^ 52 + r) ≡ odd 53 false r g 1074
write g r G lo hi =
    read (g * 2 ^ 52 + r) (suc g) (r - 2 ^ 52) (below g r G hi) (top g r lo hi) (low g r lo hi)
    ∙ read-suc g (r - 2 ^ 52) (room g G)
    ∙ ap (λ (z : ℕ). odd 53 false z g 1074) (add-sub_of_le lo)
  where
    below : (g r : ℕ) → g < 2045 → r < 2 ^ 53 → g * 2 ^ 52 + r < 2 ^ 63
    below g r a b = omega arith

    top : (g r : ℕ) → 2 ^ 52 ≤ r → r < 2 ^ 53 → (g * 2 ^ 52 + r) / 2 ^ 52 ≡ suc g
    top g r a b = omega arith

    low : (g r : ℕ) → 2 ^ 52 ≤ r → r < 2 ^ 53 → (g * 2 ^ 52 + r) % 2 ^ 52 ≡ r - 2 ^ 52
    low g r a b = omega arith

    room : (g : ℕ) → g < 2045 → suc g < 2047
    room g h = omega arith

odd_no_nan : (d : ℕ) (s : Bool) (q k l : ℕ) → T (not (is_nan (odd d s q k l)))
unfolding odd is_nan
odd_no_nan d s zero k l = tt
odd_no_nan d s (suc q) k l = tt

-- ---- the powers of two

scale : (n w s u a m : ℕ) → 1 ≤ w → 2 ≤ u → u + s ≡ w + 1023 → m ≡ n * 2 ^ s → Evened u m a
    → n * 2 ^ (w - 1) * per_one ≡ a * 2 ^ 52 * (2 ^ (u / 2 - 1) * 2 ^ (u / 2 - 1))
scale n w s u a m W U e M E = go (eq-or-lt_of_le (at_most u))
  where
    at_most : (u : ℕ) → u % 2 ≤ 1
    at_most u = omega arith

    g : ℕ
    g = u / 2 - 1

    even_sum : (w u s : ℕ) → 1 ≤ w → 2 ≤ u → u + s ≡ w + 1023 → u % 2 < 1 → w - 1 + 1074 ≡ s + (0 + (52 + (u / 2 - 1 + (u / 2 - 1))))
    even_sum w u s W U e h = omega arith

    odd-sum : (w u s : ℕ) → 1 ≤ w → 2 ≤ u → u + s ≡ w + 1023 → u % 2 ≡ 1 → w - 1 + 1074 ≡ s + (1 + (52 + (u / 2 - 1 + (u / 2 - 1))))
    odd-sum w u s W U e h = omega arith

    -- c is u % 2
    by : (c : ℕ) → w - 1 + 1074 ≡ s + (c + (52 + (g + g))) → a ≡ m * 2 ^ c → n * 2 ^ (w - 1) * per_one ≡ a * 2 ^ 52 * (2 ^ g * 2 ^ g)
    by c h A =
        mul_assoc n (2 ^ (w - 1)) per_one
        ∙ ap (λ (z : ℕ). n * z) (sym (pow-add 2 (w - 1) 1074) ∙ ap (λ (z : ℕ). 2 ^ z) h ∙ pow-add 2 s (c + (52 + (g + g))))
        ∙ sym (mul_assoc n (2 ^ s) (2 ^ (c + (52 + (g + g)))))
        ∙ ap (λ (z : ℕ). z * 2 ^ (c + (52 + (g + g)))) (sym M)
        ∙ ap (λ (z : ℕ). m * z) (pow-add 2 c (52 + (g + g)))
        ∙ sym (mul_assoc m (2 ^ c) (2 ^ (52 + (g + g))))
        ∙ ap (λ (z : ℕ). z * 2 ^ (52 + (g + g))) (sym A)
        ∙ ap (λ (z : ℕ). a * z) (pow-add 2 52 (g + g) ∙ ap (λ (z : ℕ). 2 ^ 52 * z) (pow-add 2 g g))
        ∙ sym (mul_assoc a (2 ^ 52) (2 ^ g * 2 ^ g))

    go : (u % 2 ≡ 1) ⊎ (u % 2 < 1) → n * 2 ^ (w - 1) * per_one ≡ a * 2 ^ 52 * (2 ^ g * 2 ^ g)
    go (inl h) = by 1 (odd-sum w u s W U e h) (E.odd h)
    go (inr h) = by 0 (even_sum w u s W U e h) (once a m (E.even (none (u % 2) h)))
      where
        none : (r : ℕ) → r < 1 → r ≡ 0
        none r h = omega arith

        once : (a m : ℕ) → a ≡ m → a ≡ m * 1
        once a m e = omega arith

-- ---- `parts`

pub normal-parts : (b : ℕ) → b < inf_bits → 0 < b / 2 ^ 52 → PartsOf b (b % 2 ^ 52 + 2 ^ 52) (b / 2 ^ 52 + 1023)
normal-parts b B h = record {
  n = b % 2 ^ 52 + 2 ^ 52;
  w = b / 2 ^ 52;
  s = 0;
  value = normal b (b / 2 ^ 52 - 1) B (back (b / 2 ^ 52) h);
  moved = record { is = sym (mul-one (b % 2 ^ 52 + 2 ^ 52)); high = omega arith; short = omega arith; few = omega arith };
  first = h;
  last = omega arith;
  sum = omega arith;
}
  where
    back : (e : ℕ) → 0 < e → e ≡ suc (e - 1)
    back e h = omega arith

pub subnormal-parts : (b m s : ℕ) → b < 2 ^ 52 → Moved b m s → PartsOf b m (1 + 1023 - s)
subnormal-parts b m s h M = record {
  n = b;
  w = 1;
  s = s;
  value = subnormal b h;
  moved = M;
  first = omega arith;
  last = omega arith;
  sum = left s M.few;
}
  where
    left : (s : ℕ) → s ≤ 52 → 1 + 1023 - s + s ≡ 1 + 1023
    left s h = omega arith

-- ---- the whole of `root_bits`

pub met : (b m u a r : ℕ) → b < inf_bits → PartsOf b m u → Evened u m a → Rounded a r → RootBits b ((u / 2 - 1) * 2 ^ 52 + r)
met b m u a r B P E R = record {
  near =
      near (of_bits binary64 b) (of_bits binary64 (g * 2 ^ 52 + r)) (a * 2 ^ 52) r g mid
      (ap (λ (z : ℕ). z * per_one) P.value
      ∙ scale P.n P.w P.s u a m P.first (two P.w u P.s P.first P.moved.few P.sum) P.sum P.moved.is E)
      (of_bits-fits binary64 (g * 2 ^ 52 + r))
      (subst (λ (v : Float). T (plain v)) (sym is) (plain-odd 53 r g 1074))
      (ap grains is ∙ grains-odd 53 false r g);
  number =
      subst (λ (z : Bool). T (not z)) (sym (nan_bits_is binary64 (g * 2 ^ 52 + r)))
      (subst (λ (v : Float). T (not (is_nan v))) (sym is) (odd_no_nan 53 false r g 1074));
}
  where
    g : ℕ
    g = u / 2 - 1

    big : (a m : ℕ) → 2 ^ 52 ≤ m → m ≤ a → 2 ^ 52 ≤ a
    big a m h k = omega arith

    mid : Middle (a * 2 ^ 52) r
    mid = in-middle a r (big a m P.moved.high E.high) R

    room : (w u s b : ℕ) → b < inf_bits → w ≤ b / 2 ^ 52 + 1 → u + s ≡ w + 1023 → u / 2 - 1 < 2045
    room w u s b B F U = omega arith

    is : of_bits binary64 (g * 2 ^ 52 + r) ≡ odd 53 false r g 1074
    is = write g r (room P.w u P.s b B P.last P.sum) mid.enough (short a r E.short R)

    two : (w u s : ℕ) → 1 ≤ w → s ≤ 52 → u + s ≡ w + 1023 → 2 ≤ u
    two w u s h k U = omega arith
