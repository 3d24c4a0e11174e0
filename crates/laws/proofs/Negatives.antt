-- A sign in front of a float goes through a product exactly, and through a sum up to the sign of a zero: x - x is +0 either way.
-- So it goes through `dot`, of any width. By the definition of `round`, which treats both signs alike. Assumes nothing.
use mathlib.Core.Path.{◌≡◌, refl, sym, ap, ◌∙◌}
use mathlib.Core.Bool.{Bool, true, false, not, xor, cond, not-not}
use Prim.Native.Nat.{ℕ, zero, suc, ◌+◌, ◌-◌, ◌*◌, ◌/◌, ◌%◌, ◌^◌, ◌≤◌, ◌<◌, compare}
use native.Mathlib.Omega.{arith}
use lib.Dec.{T, ltb, eqb, nltb→le}
use lib.Ieee.{Float, nan, inf, fin, Format, binary64, prec, emax, low, up, down, round, units, odd, size, nearest, sum, add, mul, neg, unlike}
use Rattle.laws.specs.Zeros.{+0, sg, nz}
use Rattle.laws.specs.Maps.{dot}
use Rattle.laws.proofs.Zeros.{den, round-zero, neg-cong, add_cong, mul-cong}

-- ---- the sign of a product

pub unlike-false : (s : Bool) → unlike s false ≡ s
unlike-false false = refl
unlike-false true = refl

pub false-unlike : (s : Bool) → unlike false s ≡ s
false-unlike false = refl
false-unlike true = refl

pub unlike-not : (s t : Bool) → unlike s (not t) ≡ not (unlike s t)
unlike-not false false = refl
unlike-not false true = refl
unlike-not true false = refl
unlike-not true true = refl

-- the same sign twice
pub unlike-twice : (s t : Bool) → unlike (unlike s t) t ≡ s
unlike-twice false false = refl
unlike-twice false true = refl
unlike-twice true false = refl
unlike-twice true true = refl

-- ---- negation

pub neg-neg : (x : Float) → neg (neg x) ≡ x
unfolding neg
neg-neg nan = refl
neg-neg (inf s) = ap inf (not-not s)
neg-neg (fin s m e) = ap (λ b. fin b m e) (not-not s)

odd-neg : (d : ℕ) (s : Bool) (q k l : ℕ) → odd d (not s) q k l ≡ neg (odd d s q k l)
unfolding odd neg
odd-neg d s zero k l = refl
odd-neg d s (suc q) k l = refl

units-neg : (f : Format) (s : Bool) (q k : ℕ) → units f (not s) q k ≡ neg (units f s q k)
unfolding units neg
units-neg f s q k = go (ltb (q * 2 ^ k) (2 ^ (low f + suc (emax f))))
  where
    go : (b : Bool) → cond b (odd (suc (prec f)) (not s) q k (low f)) (inf (not s)) ≡ neg (cond b (odd (suc (prec f)) s q k (low f)) (inf s))
    go true = odd-neg (suc (prec f)) s q k (low f)
    go false = refl

pub round-neg : (f : Format) (s : Bool) (num den : ℕ) → round f (not s) num den ≡ neg (round f s num den)
unfolding round
round-neg f s num den =
    let n = num * 2 ^ low f in
    let k = size (n / den) - prec f in
    let u = den * 2 ^ k in
    units-neg f s (nearest (n / u) (compare (n % u * 2) u)) k

-- ---- a product

-- an infinity times a finite float
inf-times : (b : Bool) (s t : Bool) → cond b nan (inf (unlike s (not t))) ≡ neg (cond b nan (inf (unlike s t)))
unfolding neg
inf-times true s t = refl
inf-times false s t = ap inf (unlike-not s t)

pub mul-neg : (x y : Float) → mul binary64 x (neg y) ≡ neg (mul binary64 x y)
unfolding mul neg
mul-neg nan nan = refl
mul-neg nan (inf t) = refl
mul-neg nan (fin t n d) = refl
mul-neg (inf s) nan = refl
mul-neg (inf s) (inf t) = ap inf (unlike-not s t)
mul-neg (inf s) (fin t n d) = inf-times (eqb n 0) s t
mul-neg (fin s m e) nan = refl
mul-neg (fin s m e) (inf t) = inf-times (eqb m 0) s t
mul-neg (fin s m e) (fin t n d) =
    ap (λ (b : Bool). round binary64 b (m * up e * (n * up d)) (down e * down d)) (unlike-not s t)
    ∙ round-neg binary64 (unlike s t) (m * up e * (n * up d)) (down e * down d)

-- ---- a sum

-- a / c less b / c, up to the sign of a zero
abbrev diff : Bool → ℕ → ℕ → ℕ → Float
diff s a b c = cond (ltb a b) (round binary64 (not s) (b - a) c) (round binary64 s (a - b) c)

sum-diff : (s : Bool) (a b c : ℕ) → 0 < c → nz (sum binary64 s a (not s) b c) ≡ nz (diff s a b c)
unfolding sum
sum-diff false a b c C = refl
sum-diff true a b c C = go (ltb a b) (ltb b a) (λ t u. none a b (nltb→le a b t) (nltb→le b a u))
  where
    none : (a b : ℕ) → b ≤ a → a ≤ b → a - b ≡ 0
    none a b h k = omega arith

    go : (p q : Bool) → (T (not p) → T (not q) → a - b ≡ 0)
        → nz (cond p (round binary64 false (b - a) c) (round binary64 q (a - b) c)) ≡ nz (cond p (round binary64 false (b - a) c) (round binary64 true (a - b) c))
    go true q h = refl
    go false true h = refl
    go false false h = rw (h tt tt) (round-zero false c C ∙ sym (round-zero true c C))

diff-neg : (s : Bool) (a b c : ℕ) → diff (not s) a b c ≡ neg (diff s a b c)
diff-neg s a b c = go (ltb a b)
  where
    go : (p : Bool) → cond p (round binary64 (not (not s)) (b - a) c) (round binary64 (not s) (a - b) c) ≡ neg (cond p (round binary64 (not s) (b - a) c) (round binary64 s (a - b) c))
    go true = round-neg binary64 (not s) (b - a) c
    go false = round-neg binary64 s (a - b) c

unlike-neg : (s : Bool) (a b c : ℕ) → 0 < c → nz (sum binary64 (not s) a (not (not s)) b c) ≡ nz (neg (sum binary64 s a (not s) b c))
unlike-neg s a b c C =
    sum-diff (not s) a b c C ∙ ap nz (diff-neg s a b c) ∙ sym (neg-cong (sum binary64 s a (not s) b c) (diff s a b c) (sum-diff s a b c C))

sum-neg : (s t : Bool) (a b c : ℕ) → 0 < c → nz (sum binary64 (not s) a (not t) b c) ≡ nz (neg (sum binary64 s a t b c))
unfolding sum
sum-neg false false a b c C = ap nz (round-neg binary64 false (a + b) c)
sum-neg true true a b c C = ap nz (round-neg binary64 true (a + b) c)
sum-neg false true a b c C = unlike-neg false a b c C
sum-neg true false a b c C = unlike-neg true a b c C

pub add-neg : (x y : Float) → nz (add binary64 (neg x) (neg y)) ≡ nz (neg (add binary64 x y))
unfolding add neg
add-neg nan y = refl
add-neg (inf s) nan = refl
add-neg (inf false) (inf false) = refl
add-neg (inf false) (inf true) = refl
add-neg (inf true) (inf false) = refl
add-neg (inf true) (inf true) = refl
add-neg (inf s) (fin t n d) = refl
add-neg (fin s m e) nan = refl
add-neg (fin s m e) (inf t) = refl
add-neg (fin s m e) (fin t n d) = sum-neg s t (m * up e * down d) (n * up d * down e) (down e * down d) (den e d)

-- ---- signs in front

pub sg-comm : (a b : Bool) (x : Float) → sg a (sg b x) ≡ sg b (sg a x)
sg-comm false b x = refl
sg-comm true false x = refl
sg-comm true true x = refl

-- two signs are one
pub sg-xor : (a b : Bool) (x : Float) → sg a (sg b x) ≡ sg (xor a b) x
unfolding xor
sg-xor false false x = refl
sg-xor false true x = refl
sg-xor true false x = refl
sg-xor true true x = neg-neg x

pub sg-cong : (b : Bool) (x y : Float) → nz x ≡ nz y → nz (sg b x) ≡ nz (sg b y)
sg-cong false x y h = h
sg-cong true x y h = neg-cong x y h

pub mul-sg : (b : Bool) (x y : Float) → mul binary64 x (sg b y) ≡ sg b (mul binary64 x y)
mul-sg false x y = refl
mul-sg true x y = mul-neg x y

pub add-sg : (b : Bool) (x y : Float) → nz (add binary64 (sg b x) (sg b y)) ≡ nz (sg b (add binary64 x y))
add-sg false x y = refl
add-sg true x y = add-neg x y

-- ---- a sum of products

sg-zero : (b : Bool) → +0 ≡ nz (sg b +0)
unfolding neg
sg-zero false = refl
sg-zero true = refl

pub dot-sg : (b : Bool) (q q' v w : ℕ → Float) (k : ℕ) → ((j : ℕ) → j < k → nz (q j) ≡ nz (q' j)) → ((j : ℕ) → j < k → nz (v j) ≡ nz (sg b (w j))) → nz (dot q v k) ≡ nz (sg b (dot q' w k))
unfolding dot
dot-sg b q q' v w zero h g = sg-zero b
dot-sg b q q' v w (suc k) h g =
    add_cong (dot q v k) (mul binary64 (q k) (v k)) (sg b (dot q' w k)) (sg b (mul binary64 (q' k) (w k)))
    (dot-sg b q q' v w k (λ j l. h j (omega arith)) (λ j l. g j (omega arith)))
    (mul-cong (q k) (v k) (q' k) (sg b (w k)) (h k (omega arith)) (g k (omega arith)) ∙ ap nz (mul-sg b (q' k) (w k)))
    ∙ add-sg b (dot q' w k) (mul binary64 (q' k) (w k))

pub dot-nz : (q q' v w : ℕ → Float) (k : ℕ) → ((j : ℕ) → j < k → nz (q j) ≡ nz (q' j)) → ((j : ℕ) → j < k → nz (v j) ≡ nz (w j)) → nz (dot q v k) ≡ nz (dot q' w k)
dot-nz q q' v w k h g = dot-sg false q q' v w k h g
