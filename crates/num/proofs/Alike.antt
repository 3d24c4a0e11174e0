-- `abs`, `max`, `min` and `clamp` under the two views of a float that forget the sign of a zero: equality up to that sign (`nz`), and the
-- whole number over a power of two that a small float is (`Dy`). By the laws of the comparisons that they make. Assumes nothing.
use mathlib.Core.Path.{◌≡◌, refl, sym, ap, ◌∙◌}
use mathlib.Core.Bool.{Bool, true, false, cond}
use Prim.Native.Nat.{ℕ, zero, suc}
use lib.IntN.{ℤ, pos, nat_abs}
use lib.Signed.{lt_z}
use lib.Ieee.{Float, nan, inf, fin, is_nan, lt}
use Rattle.laws.specs.Zeros.{nz}
use Rattle.laws.specs.Dyadic.{Dy}
use Rattle.laws.proofs.Zeros.{lt-nz}
use Rattle.laws.proofs.Integers.{abs-of}
use Rattle.laws.proofs.DyadicOrder.{lt-dy}
use Rattle.num.specs.Order.{abs_of, max_of, min_of, clamp_of}

-- ---- up to the sign of a zero

pub nan-nz : (x : Float) → is_nan x ≡ is_nan (nz x)
unfolding is_nan
nan-nz nan = refl
nan-nz (inf s) = refl
nan-nz (fin s zero e) = refl
nan-nz (fin s (suc m) e) = refl

cond-nz : (b : Bool) (x y : Float) → nz (cond b x y) ≡ cond b (nz x) (nz y)
cond-nz true x y = refl
cond-nz false x y = refl

pub abs-nz : (x : Float) → nz (abs_of x) ≡ abs_of (nz x)
unfolding abs_of
abs-nz nan = refl
abs-nz (inf s) = refl
abs-nz (fin s zero e) = refl
abs-nz (fin s (suc m) e) = refl

pub abs-cong : (x y : Float) → nz x ≡ nz y → nz (abs_of x) ≡ nz (abs_of y)
abs-cong x y h = abs-nz x ∙ ap abs_of h ∙ sym (abs-nz y)

pub max-nz : (x y : Float) → nz (max_of x y) ≡ max_of (nz x) (nz y)
unfolding max_of
max-nz x y = cond-nz (is_nan x) y (cond (lt x y) y x) ∙ (λ t. cond (nan-nz x t) (nz y) ((cond-nz (lt x y) y x ∙ (λ u. cond (lt-nz x y u) (nz y) (nz x))) t))

pub min-nz : (x y : Float) → nz (min_of x y) ≡ min_of (nz x) (nz y)
unfolding min_of
min-nz x y = cond-nz (is_nan x) y (cond (lt y x) y x) ∙ (λ t. cond (nan-nz x t) (nz y) ((cond-nz (lt y x) y x ∙ (λ u. cond (lt-nz y x u) (nz y) (nz x))) t))

pub clamp-nz : (x lo hi : Float) → nz (clamp_of x lo hi) ≡ clamp_of (nz x) (nz lo) (nz hi)
unfolding clamp_of
clamp-nz x lo hi = upper (cond (lt x lo) lo x) ∙ ap (λ (y : Float). cond (lt (nz hi) y) (nz hi) y) (lower (lt x lo) (lt (nz x) (nz lo)) (lt-nz x lo))
  where
    upper : (y : Float) → nz (cond (lt hi y) hi y) ≡ cond (lt (nz hi) (nz y)) (nz hi) (nz y)
    upper y = cond-nz (lt hi y) hi y ∙ (λ t. cond (lt-nz hi y t) (nz hi) (nz y))

    lower : (b c : Bool) → b ≡ c → nz (cond b lo x) ≡ cond c (nz lo) (nz x)
    lower b c e = cond-nz b lo x ∙ (λ t. cond (e t) (nz lo) (nz x))

-- ---- small dyadic numbers

dy-number : (j : ℕ) (z : ℤ) (x : Float) → Dy j z x → is_nan x ≡ false
unfolding is_nan
dy-number j z nan d = absurd d
dy-number j z (inf s) d = absurd d
dy-number j z (fin s m e) d = refl

pub abs-dy : (j : ℕ) (z : ℤ) (x : Float) → Dy j z x → Dy j (pos (nat_abs z)) (abs_of x)
unfolding abs_of
abs-dy j z nan d = absurd d
abs-dy j z (inf s) d = absurd d
abs-dy j z (fin s m e) (k, v, w) = (k, v, ap pos (abs-of s k z w))

-- of two, the second where c says so
either-dy : (j : ℕ) (z w : ℤ) (x y : Float) (b c : Bool) → b ≡ c → Dy j z x → Dy j w y → Dy j (cond c w z) (cond b y x)
either-dy j z w x y b true e p q = rw e q
either-dy j z w x y b false e p q = rw e p

pub max-dy : (j : ℕ) (z w : ℤ) (x y : Float) → Dy j z x → Dy j w y → Dy j (cond (lt_z z w) w z) (max_of x y)
unfolding max_of
max-dy j z w x y p q = rw (dy-number j z x p) (either-dy j z w x y (lt x y) (lt_z z w) (lt-dy j z w x y p q) p q)

pub min-dy : (j : ℕ) (z w : ℤ) (x y : Float) → Dy j z x → Dy j w y → Dy j (cond (lt_z w z) w z) (min_of x y)
unfolding min_of
min-dy j z w x y p q = rw (dy-number j z x p) (either-dy j z w x y (lt y x) (lt_z w z) (lt-dy j w z y x q p) p q)
