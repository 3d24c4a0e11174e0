-- Two, or four, anticommuting operators and as many anticommuting sums of them: the product of the sums is the determinant times the product of the operators.
-- Assumes nothing.
use mathlib.Core.Path.{◌≡◌, refl, sym, ap, ◌∙◌}
use mathlib.Core.Logic.{◌≢◌}
use mathlib.Core.Bool.{Bool, true, false, cond, ◌&&◌, not, xor, false≢true}
use mathlib.Core.List.{[]}
use Prim.Native.Nat.{ℕ, zero, suc, ◌+◌, ◌*◌, ◌-◌, ◌/◌, ◌%◌, ◌<◌}
use native.Mathlib.Omega.{arith}
use lib.Dec.{ltb, lit<}
use borrow.Author.Tests.{ltb-true, ltb-false, lt-ltb}
use Rattle.rings.specs.Rings.{Ops, IsRing, sg}
use Rattle.formulas.specs.Numbers.{Exact}
use Rattle.formulas.specs.Engine.{Mat}
use Rattle.formulas.specs.Determinants.{det}
use Rattle.angles.specs.Qubits.{Operators}
use Rattle.angles.specs.Angles.{combined}
use Rattle.rings.proofs.Rings.{mul-zero, add-cancel, neg-sum}
use Rattle.rings.proofs.Solve.{and-left, and-right, Exp, var, nought, unit, plus, times, minus, exps, Rules, left-of, value, Obeys, solve}
use Rattle.angles.proofs.Passing.{Pass, pass-mul, mul-pass}
use Rattle.angles.proofs.Majoranas.{num-zero, num-neg}

-- variables below 100 are numbers; from 100 on there are w operators that anticommute and are their own inverses
abbrev pub rules : ℕ → Rules
rules w = record { moves = λ a b. ltb b a && ltb a (100 + w); odd = λ a. not (ltb a 100) && ltb a (100 + w) }

-- only numbers stand in it
abbrev pub scalar : Exp → Bool
scalar (var a) = ltb a 100
scalar nought = true
scalar unit = true
scalar (plus e f) = scalar e && scalar f
scalar (times e f) = scalar e && scalar f
scalar (minus e) = scalar e

module _ {𝓝 : Ops} {below : 𝓝.N → Bool} (𝓔 : Exact 𝓝 below) {n : ℕ} {𝓐 : Ops} (𝓠 : Operators 𝓝 𝓔.i n 𝓐) where
  open 𝓐 use {N, zero as 𝟘, one as 𝟙, add as ◌⊹◌, mul as ◌⋆◌, neg}

  infixl 65 ◌⊹◌
  infixl 70 ◌⋆◌
  abbrev 𝓛 : IsRing 𝓐
  𝓛 = 𝓠.ring

  -- half of x + x
  pub halved : (a : N) → 𝓠.num 𝓔.half ⋆ (a ⊹ a) ≡ a
  halved a =
      𝓛.left (𝓠.num 𝓔.half) a a
      ∙ sym (𝓛.right (𝓠.num 𝓔.half) (𝓠.num 𝓔.half) a)
      ∙ ap (λ b. b ⋆ a) (sym (𝓠.num-add 𝓔.half 𝓔.half) ∙ ap 𝓠.num 𝓔.halves ∙ 𝓠.num-one)
      ∙ 𝓛.one-mul a

  doubled : (a b : N) → a ⊹ a ≡ b ⊹ b → a ≡ b
  doubled a b e = sym (halved a) ∙ ap (λ c. 𝓠.num 𝓔.half ⋆ c) e ∙ halved b

  -- four anticommuting operators v, the first its own inverse, with v0 v1 = f, v2 v3 = h and f h + h f = 2 (d + s), where d anticommutes with v0 and s does
  -- not: then s is nought, and their product is d
  module _ (v0 v1 v2 v3 f h d s : N) (p01 : Pass 𝓐 true v0 v1) (p02 : Pass 𝓐 true v0 v2) (p03 : Pass 𝓐 true v0 v3)
      (p12 : Pass 𝓐 true v1 v2) (p13 : Pass 𝓐 true v1 v3) (own : v0 ⋆ v0 ≡ 𝟙) (ef : v0 ⋆ v1 ≡ f) (eh : v2 ⋆ v3 ≡ h)
      (sum : f ⋆ h ⊹ h ⋆ f ≡ d ⊹ s ⊹ (d ⊹ s)) (pd : Pass 𝓐 true v0 d) (ps : Pass 𝓐 false v0 s) where
    pairs-pass : Pass 𝓐 false (v0 ⋆ v1) (v2 ⋆ v3)
    unfolding xor
    pairs-pass =
        mul-pass 𝓛 false false v0 v1 (v2 ⋆ v3) (pass-mul 𝓛 true true v0 v2 v3 p02 p03) (pass-mul 𝓛 true true v1 v2 v3 p12 p13)

    is-sum : v0 ⋆ v1 ⋆ (v2 ⋆ v3) ≡ d ⊹ s
    is-sum =
        doubled (v0 ⋆ v1 ⋆ (v2 ⋆ v3)) (d ⊹ s)
        (ap (λ a. v0 ⋆ v1 ⋆ (v2 ⋆ v3) ⊹ a) pairs-pass ∙ (λ i. ef i ⋆ eh i ⊹ eh i ⋆ ef i) ∙ sum)

    passes : Pass 𝓐 true v0 (v0 ⋆ v1 ⋆ (v2 ⋆ v3))
    unfolding xor
    passes =
        pass-mul 𝓛 true false v0 (v0 ⋆ v1) (v2 ⋆ v3) (pass-mul 𝓛 false true v0 v0 v1 refl p01) (pass-mul 𝓛 true true v0 v2 v3 p02 p03)

    -- v0 s = - s v0 = - v0 s
    turned : v0 ⋆ s ≡ neg (v0 ⋆ s)
    turned =
        add-cancel 𝓛 (v0 ⋆ d) (v0 ⋆ s) (neg (v0 ⋆ s))
        (sym (𝓛.left v0 d s)
        ∙ ap (λ a. v0 ⋆ a) (sym is-sum)
        ∙ passes
        ∙ ap (λ a. neg (a ⋆ v0)) is-sum
        ∙ ap neg (𝓛.right d s v0)
        ∙ neg-sum 𝓛 (d ⋆ v0) (s ⋆ v0)
        ∙ (λ i. sym pd i ⊹ neg (sym ps i)))

    nothing : s ≡ 𝟘
    nothing =
        sym (𝓛.one-mul s)
        ∙ ap (λ a. a ⋆ s) (sym own)
        ∙ 𝓛.mul-assoc v0 v0 s
        ∙ ap (λ a. v0 ⋆ a)
        (doubled (v0 ⋆ s) 𝟘 (ap (λ a. v0 ⋆ s ⊹ a) turned ∙ 𝓛.add-neg (v0 ⋆ s) ∙ sym (𝓛.add-zero 𝟘)))
        ∙ mul-zero 𝓛 v0

    of-four : v0 ⋆ v1 ⋆ (v2 ⋆ v3) ≡ d
    of-four = is-sum ∙ ap (λ a. d ⊹ a) nothing ∙ 𝓛.add-zero d

  module _ (w : ℕ) (g : ℕ → N) (anti : (a b : ℕ) → a < w → b < w → a ≢ b → Pass 𝓐 true (g a) (g b)) (square : (a : ℕ) → a < w → g a ⋆ g a ≡ 𝟙) where
    module _ (k : ℕ → 𝓝.N) where
      abbrev pub env : ℕ → N
      env a = cond (ltb a 100) (𝓠.num (k a)) (g (a - 100))

      pub obeys : Obeys 𝓐 env (rules w)
      obeys = record { swap = swap; square = squares }
        where
          swap : (a b : ℕ) → ltb b a && ltb a (100 + w) ≡ true
              → env a ⋆ env b ≡ sg 𝓐 (not (ltb a 100) && ltb a (100 + w) && (not (ltb b 100) && ltb b (100 + w))) (env b ⋆ env a)
          swap a b e =
              by (ltb a 100) refl (ltb b 100) refl
              ∙ (λ i. sg 𝓐 (not (ltb a 100) && sym top i && (not (ltb b 100) && sym (lt-ltb b (100 + w) (omega (arith, less, ltb-true a (100 + w) top))) i))
              (env b ⋆ env a))
            where
              less : b < a
              less = ltb-true b a (and-left (ltb b a) (ltb a (100 + w)) e)

              top : ltb a (100 + w) ≡ true
              top = and-right (ltb b a) (ltb a (100 + w)) e

              by : (s : Bool) → ltb a 100 ≡ s → (t : Bool) → ltb b 100 ≡ t
                  → cond s (𝓠.num (k a)) (g (a - 100)) ⋆ cond t (𝓠.num (k b)) (g (b - 100))
                  ≡ sg 𝓐 (not s && true && (not t && true)) (cond t (𝓠.num (k b)) (g (b - 100)) ⋆ cond s (𝓠.num (k a)) (g (a - 100)))
              by true p t q = 𝓠.central (k a) (cond t (𝓠.num (k b)) (g (b - 100)))
              by false p true q = sym (𝓠.central (k b) (g (a - 100)))
              by false p false q =
                  anti (a - 100) (b - 100) (omega (arith, ltb-true a (100 + w) top, ltb-false a 100 p))
                  (omega (arith, less, ltb-true a (100 + w) top, ltb-false a 100 p))
                  (omega (arith, less, ltb-false a 100 p, ltb-false b 100 q))

          squares : (a : ℕ) → not (ltb a 100) && ltb a (100 + w) ≡ true → env a ⋆ env a ≡ 𝟙
          squares a e = by (ltb a 100) refl
            where
              by : (s : Bool) → ltb a 100 ≡ s → cond s (𝓠.num (k a)) (g (a - 100)) ⋆ cond s (𝓠.num (k a)) (g (a - 100)) ≡ 𝟙
              by true p = absurd (false≢true (ap (λ s. not s && ltb a (100 + w)) (sym p) ∙ e))
              by false p =
                  square (a - 100) (omega (arith, ltb-false a 100 p, ltb-true a (100 + w) (and-right (not (ltb a 100)) (ltb a (100 + w)) e)))

      pub scalars : (e : Exp) → scalar e ≡ true → value 𝓐 env e ≡ 𝓠.num (value 𝓝 k e)
      scalars (var a) h = ap (λ b. cond b (𝓠.num (k a)) (g (a - 100))) h
      scalars nought h = sym (num-zero 𝓔 𝓠)
      scalars unit h = sym 𝓠.num-one
      scalars (plus e f) h =
          (λ i. scalars e (and-left (scalar e) (scalar f) h) i ⊹ scalars f (and-right (scalar e) (scalar f) h) i)
          ∙ sym (𝓠.num-add (value 𝓝 k e) (value 𝓝 k f))
      scalars (times e f) h =
          (λ i. scalars e (and-left (scalar e) (scalar f) h) i ⋆ scalars f (and-right (scalar e) (scalar f) h) i)
          ∙ sym (𝓠.num-mul (value 𝓝 k e) (value 𝓝 k f))
      scalars (minus e) h = ap neg (scalars e h) ∙ sym (num-neg 𝓔 𝓠 (value 𝓝 k e))

-- ---- two operators

-- the sum with the numbers p, p + 1, .. in front of w operators
abbrev row : ℕ → ℕ → Exp
row p zero = nought
row p (suc w) = plus (row p w) (times (var (p + w)) (var (100 + w)))

-- the operator a
abbrev pub op : ℕ → Exp
op a = var (100 + a)

module _ {𝓝 : Ops} {below : 𝓝.N → Bool} (𝓔 : Exact 𝓝 below) {n : ℕ} {𝓐 : Ops} (𝓠 : Operators 𝓝 𝓔.i n 𝓐) (g : ℕ → 𝓐.N) (q : Mat 𝓝) where
  open 𝓐 use {N, one as 𝟙, add as ◌⊹◌, mul as ◌⋆◌, neg}

  infixl 65 ◌⊹◌
  infixl 70 ◌⋆◌
  abbrev 𝓚 : IsRing 𝓐
  𝓚 = 𝓠.ring

  -- the sums
  abbrev sum-of : ℕ → ℕ → N
  sum-of w a = combined 𝓠 (q a) g w

  abbrev two : ℕ → 𝓝.N
  two a = q (a / 2) (a % 2)

  det2 : Exp
  det2 = det exps 2 (λ a b. var (2 * a + b))

  -- s t = - t s
  twice-anti : (a b c : N) → Pass 𝓐 true a b → a ⋆ b ⊹ neg (b ⋆ a) ≡ c ⊹ c → a ⋆ b ≡ c
  twice-anti a b c e f = doubled 𝓔 𝓠 (a ⋆ b) c (ap (λ d. a ⋆ b ⊹ d) e ∙ f)

  module _ (anti : (a b : ℕ) → a < 2 → b < 2 → a ≢ b → Pass 𝓐 true (g a) (g b)) (square : (a : ℕ) → a < 2 → g a ⋆ g a ≡ 𝟙) where
    expanded2 : sum-of 2 0 ⋆ sum-of 2 1 ⊹ neg (sum-of 2 1 ⋆ sum-of 2 0)
        ≡ value 𝓐 (env 𝓔 𝓠 2 g anti square two) det2 ⋆ (g 0 ⋆ g 1) ⊹ value 𝓐 (env 𝓔 𝓠 2 g anti square two) det2 ⋆ (g 0 ⋆ g 1)
    unfolding combined det2 xor
    expanded2 = solve 𝓚 (env 𝓔 𝓠 2 g anti square two) (rules 2) (obeys 𝓔 𝓠 2 g anti square two)
        (plus (times (row 0 2) (row 2 2)) (minus (times (row 2 2) (row 0 2))))
        (plus (times det2 (times (op 0) (op 1))) (times det2 (times (op 0) (op 1)))) refl

    pub product2 : Pass 𝓐 true (sum-of 2 0) (sum-of 2 1) → sum-of 2 0 ⋆ sum-of 2 1 ≡ 𝓠.num (det 𝓝 2 q) ⋆ (g 0 ⋆ g 1)
    unfolding det2
    product2 e =
        twice-anti (sum-of 2 0) (sum-of 2 1) (value 𝓐 (env 𝓔 𝓠 2 g anti square two) det2 ⋆ (g 0 ⋆ g 1)) e expanded2
        ∙ ap (λ s. s ⋆ (g 0 ⋆ g 1)) (scalars 𝓔 𝓠 2 g anti square two det2 refl)

  -- ---- four operators

  abbrev four : ℕ → 𝓝.N
  four a = q (a / 4) (a % 4)

  det4 : Exp
  det4 = det exps 4 (λ a b. var (4 * a + b))

  -- the rows that begin at the numbers p and r: their minor of the columns a and b
  abbrev minor : ℕ → ℕ → ℕ → ℕ → Exp
  minor p r a b = plus (times (var (p + a)) (var (r + b))) (minus (times (var (p + b)) (var (r + a))))

  -- f of every two columns, summed
  abbrev pairs : (ℕ → ℕ → Exp) → Exp
  pairs f = plus (plus (f 0 1) (plus (f 0 2) (f 0 3))) (plus (f 1 2) (plus (f 1 3) (f 2 3)))

  wedge : ℕ → ℕ → Exp
  wedge p r = pairs (λ a b. times (minor p r a b) (times (op a) (op b)))

  all4 : Exp
  all4 = times (times (op 0) (op 1)) (times (op 2) (op 3))

  -- the number that is left, and that is nought
  left4 : Exp
  left4 = minus (pairs (λ a b. times (minor 0 4 a b) (minor 8 12 a b)))

  module _ (anti : (a b : ℕ) → a < 4 → b < 4 → a ≢ b → Pass 𝓐 true (g a) (g b)) (square : (a : ℕ) → a < 4 → g a ⋆ g a ≡ 𝟙) where
    abbrev val : Exp → N
    val = value 𝓐 (env 𝓔 𝓠 4 g anti square four)

    abbrev by4 : (e f : Exp) → left-of (rules 4) (plus e (minus f)) ≡ [] → val e ≡ val f
    by4 = solve 𝓚 (env 𝓔 𝓠 4 g anti square four) (rules 4) (obeys 𝓔 𝓠 4 g anti square four)

    first-two : sum-of 4 0 ⋆ sum-of 4 1 ⊹ neg (sum-of 4 1 ⋆ sum-of 4 0) ≡ val (wedge 0 4) ⊹ val (wedge 0 4)
    unfolding combined wedge xor
    first-two = by4 (plus (times (row 0 4) (row 4 4)) (minus (times (row 4 4) (row 0 4)))) (plus (wedge 0 4) (wedge 0 4)) refl

    last-two : sum-of 4 2 ⋆ sum-of 4 3 ⊹ neg (sum-of 4 3 ⋆ sum-of 4 2) ≡ val (wedge 8 12) ⊹ val (wedge 8 12)
    unfolding combined wedge xor
    last-two = by4 (plus (times (row 8 4) (row 12 4)) (minus (times (row 12 4) (row 8 4)))) (plus (wedge 8 12) (wedge 8 12)) refl

    both-pairs : val (wedge 0 4) ⋆ val (wedge 8 12) ⊹ val (wedge 8 12) ⋆ val (wedge 0 4)
        ≡ val det4 ⋆ val all4 ⊹ val left4 ⊹ (val det4 ⋆ val all4 ⊹ val left4)
    unfolding wedge det4 all4 left4 xor
    both-pairs = by4 (plus (times (wedge 0 4) (wedge 8 12)) (times (wedge 8 12) (wedge 0 4)))
        (plus (plus (times det4 all4) left4) (plus (times det4 all4) left4)) refl

    -- the first sum anticommutes with the product of the four operators
    first-all : sum-of 4 0 ⋆ val all4 ≡ neg (val all4 ⋆ sum-of 4 0)
    unfolding combined all4 xor
    first-all = by4 (times (row 0 4) all4) (minus (times all4 (row 0 4))) refl

    pub product4 : ((a b : ℕ) → a < 4 → b < 4 → a ≢ b → Pass 𝓐 true (sum-of 4 a) (sum-of 4 b)) → sum-of 4 0 ⋆ sum-of 4 0 ≡ 𝟙
        → sum-of 4 0 ⋆ sum-of 4 1 ⋆ (sum-of 4 2 ⋆ sum-of 4 3) ≡ 𝓠.num (det 𝓝 4 q) ⋆ (g 0 ⋆ g 1 ⋆ (g 2 ⋆ g 3))
    unfolding det4 left4 all4 xor
    product4 sums own =
        of-four 𝓔 𝓠 (sum-of 4 0) (sum-of 4 1) (sum-of 4 2) (sum-of 4 3) (val (wedge 0 4)) (val (wedge 8 12)) (val det4 ⋆ val all4) (val left4)
        (sums 0 1 (lit< tt) (lit< tt) (omega arith)) (sums 0 2 (lit< tt) (lit< tt) (omega arith)) (sums 0 3 (lit< tt) (lit< tt) (omega arith))
        (sums 1 2 (lit< tt) (lit< tt) (omega arith)) (sums 1 3 (lit< tt) (lit< tt) (omega arith)) own
        (twice-anti (sum-of 4 0) (sum-of 4 1) (val (wedge 0 4)) (sums 0 1 (lit< tt) (lit< tt) (omega arith)) first-two)
        (twice-anti (sum-of 4 2) (sum-of 4 3) (val (wedge 8 12)) (sums 2 3 (lit< tt) (lit< tt) (omega arith)) last-two)
        both-pairs
        (pass-mul 𝓚 false true (sum-of 4 0) (val det4) (val all4) (number det4 refl (sum-of 4 0)) first-all)
        (number left4 refl (sum-of 4 0))
        ∙ ap (λ s. s ⋆ (g 0 ⋆ g 1 ⋆ (g 2 ⋆ g 3))) (scalars 𝓔 𝓠 4 g anti square four det4 refl)
      where
        number : (e : Exp) → scalar e ≡ true → (a : N) → Pass 𝓐 false a (val e)
        number e h a =
            ap (λ s. a ⋆ s) (scalars 𝓔 𝓠 4 g anti square four e h)
            ∙ sym (𝓠.central (value 𝓝 four e) a)
            ∙ ap (λ s. s ⋆ a) (sym (scalars 𝓔 𝓠 4 g anti square four e h))
