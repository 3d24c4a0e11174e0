-- |0><0|, |0><1|, |1><0| and |1><1| of a qubit multiply as matrix units do; so sums with operators in front of them that commute with the qubit's multiply as
-- matrices do. Assumes nothing.
use mathlib.Core.Path.{◌≡◌, refl, sym, ap, ◌∙◌}
use mathlib.Core.Logic.{◌≢◌}
use mathlib.Core.Bool.{Bool, true, false, cond, ◌&&◌, not, xor, false≢true}
use mathlib.Core.List.{[]}
use Prim.Native.Nat.{ℕ, zero, suc, ◌+◌, ◌*◌, ◌-◌, ◌/◌, ◌%◌, ◌<◌}
use native.Mathlib.Omega.{arith}
use lib.Dec.{ltb, lit<}
use Rattle.rings.specs.Rings.{Ops, IsRing}
use Rattle.formulas.specs.Numbers.{Exact}
use Rattle.angles.specs.Qubits.{Axis, x, y, z, Operators}
use Rattle.matchgates.specs.Gates.{ket_bra, spread}
use Rattle.rings.proofs.Rings.{neg-mul, neg-neg, mul-neg, zero-mul}
use Rattle.rings.proofs.Solve.{Exp, var, nought, unit, plus, times, minus, Rules, left-of, value, Obeys, solve, free, obeys-free}
use Rattle.angles.proofs.Passing.{Pass, pass-back, pass-mul, pass-one}
use Rattle.angles.proofs.Majoranas.{i-i, which-z}
use Rattle.angles.proofs.Clifford.{rules, env, obeys, op}
use Rattle.laws.proofs.Below.{below-two}

-- ---- terms: half is var 0, i is var 1; Z is op 0 and X is op 1

abbrev unit_e : ℕ → ℕ → Exp
unit_e zero zero = times (var 0) (plus unit (op 0))
unit_e zero (suc c) = times (var 0) (plus (op 1) (times (op 0) (op 1)))
unit_e (suc r) zero = times (var 0) (plus (op 1) (minus (times (op 0) (op 1))))
unit_e (suc r) (suc c) = times (var 0) (plus unit (minus (op 0)))

-- half + half
abbrev whole_e : Exp
whole_e = plus (var 0) (var 0)

-- ---- terms: the operators of a first sum are the variables 0 to 3, those of a second 4 to 7; 8 to 11 are the units, and 12 and 13 two more: they may be
-- moved to the end

abbrev past : Rules
past = record { moves = λ a b. not (ltb a 8) && ltb b 8; odd = λ a. false }

abbrev four_e : (ℕ → Exp) → Exp
four_e f = plus (plus (f 0) (f 1)) (plus (f 2) (f 3))

-- given terms in front of the units
abbrev over_e : (ℕ → Exp) → Exp
over_e f = four_e (λ j. times (f j) (var (8 + j)))

abbrev first_e : Exp
first_e = over_e var

abbrev second_e : Exp
second_e = over_e (λ j. var (4 + j))

-- each of the first four in front of a term
abbrev each_e : (ℕ → Exp) → Exp
each_e f = four_e (λ j. times (var j) (f j))

-- |r><c|s><d| is |r><d| if c = s, and nought otherwise
abbrev met_e : ℕ → ℕ → Exp → Exp
met_e zero zero e = e
met_e zero (suc s) e = nought
met_e (suc c) zero e = nought
met_e (suc c) (suc s) e = e

-- each entry between <r| and |c>
abbrev ends_e : ℕ → ℕ → Exp
ends_e r c = each_e (λ j. met_e r (j / 2) (met_e (j % 2) c (var 8)))

-- every pair of terms
abbrev pairs_e : (ℕ → ℕ → Exp) → Exp
pairs_e f = each_e (λ j. four_e (λ k. times (var (4 + k)) (f j k)))

-- the sum of the product
abbrev matrix_e : Exp
matrix_e =
    over_e (λ j. plus (plus nought (times (var (2 * (j / 2))) (var (4 + j % 2)))) (times (var (2 * (j / 2) + 1)) (var (6 + j % 2))))

module _ {𝓝 : Ops} {below : 𝓝.N → Bool} (𝓔 : Exact 𝓝 below) {n : ℕ} {𝓐 : Ops} (𝓠 : Operators 𝓝 𝓔.i n 𝓐) where
  open 𝓐 use {N, zero as 𝟘, one as 𝟙, add as ◌⊹◌, mul as ◌⋆◌, neg}

  infixl 65 ◌⊹◌
  infixl 70 ◌⋆◌
  abbrev 𝓛 : IsRing 𝓐
  𝓛 = 𝓠.ring

  pass-add : (a b d : N) → Pass 𝓐 false a b → Pass 𝓐 false a d → Pass 𝓐 false a (b ⊹ d)
  pass-add a b d e f = 𝓛.left a b d ∙ (λ i. e i ⊹ f i) ∙ sym (𝓛.right b d a)

  pass-neg : (a b : N) → Pass 𝓐 false a b → Pass 𝓐 false a (neg b)
  pass-neg a b e = mul-neg 𝓛 a b ∙ ap neg e ∙ sym (neg-mul 𝓛 b a)

  pub pass-num : (a : N) (s : 𝓝.N) → Pass 𝓐 false a (𝓠.num s)
  pass-num a s = sym (𝓠.central s a)

  module _ (k : ℕ) (h : k < n) where
    abbrev E : ℕ → ℕ → N
    E = ket_bra 𝓔 𝓠 k

    abbrev g : ℕ → N
    g zero = 𝓠.pauli z k
    g (suc a) = 𝓠.pauli x k

    abbrev scals : ℕ → 𝓝.N
    scals zero = 𝓔.half
    scals (suc a) = 𝓔.i

    anti : (a b : ℕ) → a < 2 → b < 2 → a ≢ b → Pass 𝓐 true (g a) (g b)
    anti zero zero l m d = absurd (d refl)
    anti zero (suc b) l m d = pass-back 𝓛 true (𝓠.pauli x k) (𝓠.pauli z k) (which-z 𝓔 𝓠 k h false)
    anti (suc a) zero l m d = which-z 𝓔 𝓠 k h false
    anti (suc zero) (suc zero) l m d = absurd (d refl)
    anti (suc zero) (suc (suc b)) l m d = absurd (omega arith)
    anti (suc (suc a)) (suc b) l m d = absurd (omega arith)

    square : (a : ℕ) → a < 2 → g a ⋆ g a ≡ 𝟙
    square zero l = 𝓠.square z k h
    square (suc a) l = 𝓠.square x k h

    abbrev val : Exp → N
    val = value 𝓐 (env 𝓔 𝓠 2 g anti square scals)

    by2 : (e f : Exp) → left-of (rules 2) (plus e (minus f)) ≡ [] → val e ≡ val f
    by2 = solve 𝓛 (env 𝓔 𝓠 2 g anti square scals) (rules 2) (obeys 𝓔 𝓠 2 g anti square scals)

    whole : val whole_e ≡ 𝟙
    whole = sym (𝓠.num-add 𝓔.half 𝓔.half) ∙ ap 𝓠.num 𝓔.halves ∙ 𝓠.num-one

    -- i Y = Z X
    is-unit : (r c : ℕ) → E r c ≡ val (unit_e r c)
    is-unit zero zero = refl
    is-unit zero (suc c) = ap (λ a. 𝓠.num 𝓔.half ⋆ (𝓠.pauli x k ⊹ a)) (sym (𝓠.zx k h))
    is-unit (suc r) zero = ap (λ a. 𝓠.num 𝓔.half ⋆ (𝓠.pauli x k ⊹ neg a)) (sym (𝓠.zx k h))
    is-unit (suc r) (suc c) = refl

    once : (a : N) → val whole_e ⋆ a ≡ a
    once a = ap (λ b. b ⋆ a) whole ∙ 𝓛.one-mul a

    meet : (p q r s t u : ℕ) → left-of (rules 2) (plus (times (unit_e p q) (unit_e r s)) (minus (times whole_e (unit_e t u)))) ≡ [] → E p q ⋆ E r s ≡ E t u
    meet p q r s t u e =
        (λ i. is-unit p q i ⋆ is-unit r s i) ∙ by2 (times (unit_e p q) (unit_e r s)) (times whole_e (unit_e t u)) e
        ∙ once (val (unit_e t u)) ∙ sym (is-unit t u)

    miss : (p q r s : ℕ) → left-of (rules 2) (plus (times (unit_e p q) (unit_e r s)) (minus nought)) ≡ [] → E p q ⋆ E r s ≡ 𝟘
    miss p q r s e = (λ i. is-unit p q i ⋆ is-unit r s i) ∙ by2 (times (unit_e p q) (unit_e r s)) nought e

    -- a, if c = s
    abbrev met : ℕ → ℕ → N → N
    met zero zero a = a
    met zero (suc s) a = 𝟘
    met (suc c) zero a = 𝟘
    met (suc c) (suc s) a = a

    unit-mul : (r c s d : ℕ) → E r c ⋆ E s d ≡ met c s (E r d)
    unfolding xor
    unit-mul zero zero zero zero = meet 0 0 0 0 0 0 refl
    unit-mul zero zero zero (suc d) = meet 0 0 0 1 0 1 refl
    unit-mul zero zero (suc s) zero = miss 0 0 1 0 refl
    unit-mul zero zero (suc s) (suc d) = miss 0 0 1 1 refl
    unit-mul zero (suc c) zero zero = miss 0 1 0 0 refl
    unit-mul zero (suc c) zero (suc d) = miss 0 1 0 1 refl
    unit-mul zero (suc c) (suc s) zero = meet 0 1 1 0 0 0 refl
    unit-mul zero (suc c) (suc s) (suc d) = meet 0 1 1 1 0 1 refl
    unit-mul (suc r) zero zero zero = meet 1 0 0 0 1 0 refl
    unit-mul (suc r) zero zero (suc d) = meet 1 0 0 1 1 1 refl
    unit-mul (suc r) zero (suc s) zero = miss 1 0 1 0 refl
    unit-mul (suc r) zero (suc s) (suc d) = miss 1 0 1 1 refl
    unit-mul (suc r) (suc c) zero zero = miss 1 1 0 0 refl
    unit-mul (suc r) (suc c) zero (suc d) = miss 1 1 0 1 refl
    unit-mul (suc r) (suc c) (suc s) zero = meet 1 1 1 0 1 0 refl
    unit-mul (suc r) (suc c) (suc s) (suc d) = meet 1 1 1 1 1 1 refl

    met-mul : (c s : ℕ) (a b : N) → met c s a ⋆ b ≡ met c s (a ⋆ b)
    met-mul zero zero a b = refl
    met-mul zero (suc s) a b = zero-mul 𝓛 b
    met-mul (suc c) zero a b = zero-mul 𝓛 b
    met-mul (suc c) (suc s) a b = refl

    -- <r| |t><u| |c>
    unit-between : (r t u c : ℕ) → E 0 r ⋆ E t u ⋆ E c 0 ≡ met r t (met u c (E 0 0))
    unit-between r t u c = ap (λ a. a ⋆ E c 0) (unit-mul 0 r t u) ∙ met-mul r t (E 0 u) (E c 0) ∙ ap (met r t) (unit-mul 0 u c 0)

    -- |0><0| + |1><1| = 1
    pub resolved : E 0 0 ⊹ E 1 1 ≡ 𝟙
    unfolding xor
    resolved = by2 (plus (unit_e 0 0) (unit_e 1 1)) whole_e refl ∙ whole

    pub sum-x : E 0 1 ⊹ E 1 0 ≡ 𝓠.pauli x k
    unfolding xor
    sum-x = (λ i. is-unit 0 1 i ⊹ is-unit 1 0 i) ∙ by2 (plus (unit_e 0 1) (unit_e 1 0)) (times whole_e (op 1)) refl ∙ once (𝓠.pauli x k)

    pub sum-z : E 0 0 ⊹ neg (E 1 1) ≡ 𝓠.pauli z k
    unfolding xor
    sum-z = by2 (plus (unit_e 0 0) (minus (unit_e 1 1))) (times whole_e (op 0)) refl ∙ once (𝓠.pauli z k)

    -- - i |0><1| + i |1><0| = - i Z X = - i i Y
    pub sum-y : neg (𝓠.num 𝓔.i) ⋆ E 0 1 ⊹ 𝓠.num 𝓔.i ⋆ E 1 0 ≡ 𝓠.pauli y k
    unfolding xor
    sum-y =
        (λ i. neg (𝓠.num 𝓔.i) ⋆ is-unit 0 1 i ⊹ 𝓠.num 𝓔.i ⋆ is-unit 1 0 i)
        ∙ by2 (plus (times (minus (var 1)) (unit_e 0 1)) (times (var 1) (unit_e 1 0))) (times whole_e (minus (times (var 1) (times (op 0) (op 1))))) refl
        ∙ once (neg (𝓠.num 𝓔.i ⋆ (𝓠.pauli z k ⋆ 𝓠.pauli x k)))
        ∙ ap (λ a. neg (𝓠.num 𝓔.i ⋆ a)) (𝓠.zx k h)
        ∙ ap neg (sym (𝓛.mul-assoc (𝓠.num 𝓔.i) (𝓠.num 𝓔.i) (𝓠.pauli y k)) ∙ ap (λ a. a ⋆ 𝓠.pauli y k) (i-i 𝓔 𝓠) ∙ neg-mul 𝓛 𝟙 (𝓠.pauli y k))
        ∙ neg-neg 𝓛 (𝟙 ⋆ 𝓠.pauli y k)
        ∙ 𝓛.one-mul (𝓠.pauli y k)

    -- what commutes with the Paulis of the qubit commutes with its units
    pub pass-unit : (a : N) → ((p : Axis) → Pass 𝓐 false a (𝓠.pauli p k)) → (r c : ℕ) → Pass 𝓐 false a (E r c)
    unfolding xor
    pass-unit a e zero zero =
        pass-mul 𝓛 false false a (𝓠.num 𝓔.half) (𝟙 ⊹ 𝓠.pauli z k) (pass-num a 𝓔.half) (pass-add a 𝟙 (𝓠.pauli z k) (pass-one 𝓛 a) (e z))
    pass-unit a e zero (suc c) =
        pass-mul 𝓛 false false a (𝓠.num 𝓔.half) (𝓠.pauli x k ⊹ 𝓠.num 𝓔.i ⋆ 𝓠.pauli y k) (pass-num a 𝓔.half)
        (pass-add a (𝓠.pauli x k) (𝓠.num 𝓔.i ⋆ 𝓠.pauli y k) (e x)
        (pass-mul 𝓛 false false a (𝓠.num 𝓔.i) (𝓠.pauli y k) (pass-num a 𝓔.i) (e y)))
    pass-unit a e (suc r) zero =
        pass-mul 𝓛 false false a (𝓠.num 𝓔.half) (𝓠.pauli x k ⊹ neg (𝓠.num 𝓔.i ⋆ 𝓠.pauli y k)) (pass-num a 𝓔.half)
        (pass-add a (𝓠.pauli x k) (neg (𝓠.num 𝓔.i ⋆ 𝓠.pauli y k)) (e x)
        (pass-neg a (𝓠.num 𝓔.i ⋆ 𝓠.pauli y k) (pass-mul 𝓛 false false a (𝓠.num 𝓔.i) (𝓠.pauli y k) (pass-num a 𝓔.i) (e y))))
    pass-unit a e (suc r) (suc c) =
        pass-mul 𝓛 false false a (𝓠.num 𝓔.half) (𝟙 ⊹ neg (𝓠.pauli z k)) (pass-num a 𝓔.half)
        (pass-add a 𝟙 (neg (𝓠.pauli z k)) (pass-one 𝓛 a) (pass-neg a (𝓠.pauli z k) (e z)))

    abbrev S : (ℕ → ℕ → N) → N
    S = spread 𝓔 𝓠 k

    pub pass-spread : (a : N) → ((p : Axis) → Pass 𝓐 false a (𝓠.pauli p k)) → (f : ℕ → ℕ → N) → ((r c : ℕ) → Pass 𝓐 false a (f r c)) → Pass 𝓐 false a (S f)
    unfolding xor
    pass-spread a e f d =
        pass-add a (f 0 0 ⋆ E 0 0 ⊹ f 0 1 ⋆ E 0 1) (f 1 0 ⋆ E 1 0 ⊹ f 1 1 ⋆ E 1 1) (pass-add a (f 0 0 ⋆ E 0 0) (f 0 1 ⋆ E 0 1) (one 0 0) (one 0 1))
        (pass-add a (f 1 0 ⋆ E 1 0) (f 1 1 ⋆ E 1 1) (one 1 0) (one 1 1))
      where
        one : (r c : ℕ) → Pass 𝓐 false a (f r c ⋆ E r c)
        one r c = pass-mul 𝓛 false false a (f r c) (E r c) (d r c) (pass-unit a e r c)

    -- ---- two sums

    abbrev sum4 : (ℕ → N) → N
    sum4 f = f 0 ⊹ f 1 ⊹ (f 2 ⊹ f 3)

    -- a unit by its number
    abbrev En : ℕ → N
    En j = E (j / 2) (j % 2)

    -- what commutes with the qubit
    abbrev Apart : (ℕ → ℕ → N) → Type 0
    Apart f = (p : Axis) (r c : ℕ) → Pass 𝓐 false (f r c) (𝓠.pauli p k)

    module _ (f t : ℕ → ℕ → N) (pf : Apart f) (pt : Apart t) (r' c' : ℕ) where
      abbrev front : ℕ → N
      front j = cond (ltb j 4) (f (j / 2) (j % 2)) (t ((j - 4) / 2) ((j - 4) % 2))

      -- |0><r'| is 12, |c'><0| is 13
      abbrev ends : ℕ → N
      ends j = cond (ltb j 12) (En (j - 8)) (cond (ltb j 13) (E 0 r') (E c' 0))

      abbrev ρ : ℕ → N
      ρ j = cond (ltb j 8) (front j) (ends j)

      front-pass : (j : ℕ) (p : Axis) → Pass 𝓐 false (front j) (𝓠.pauli p k)
      front-pass j p = by (ltb j 4)
        where
          by : (b : Bool) → Pass 𝓐 false (cond b (f (j / 2) (j % 2)) (t ((j - 4) / 2) ((j - 4) % 2))) (𝓠.pauli p k)
          by true = pf p (j / 2) (j % 2)
          by false = pt p ((j - 4) / 2) ((j - 4) % 2)

      ends-pass : (a : N) → ((r c : ℕ) → Pass 𝓐 false a (E r c)) → (j : ℕ) → Pass 𝓐 false a (ends j)
      ends-pass a e j = by (ltb j 12) (ltb j 13)
        where
          by : (b d : Bool) → Pass 𝓐 false a (cond b (En (j - 8)) (cond d (E 0 r') (E c' 0)))
          by true d = e ((j - 8) / 2) ((j - 8) % 2)
          by false true = e 0 r'
          by false false = e c' 0

      follows : Obeys 𝓐 ρ past
      follows = record { swap = swap; square = λ a e. absurd (false≢true e) }
        where
          swap : (a b : ℕ) → not (ltb a 8) && ltb b 8 ≡ true → ρ a ⋆ ρ b ≡ ρ b ⋆ ρ a
          swap a b e = by (ltb a 8) (ltb b 8) e
            where
              by : (p q : Bool) → not p && q ≡ true
                  → cond p (front a) (ends a) ⋆ cond q (front b) (ends b) ≡ cond q (front b) (ends b) ⋆ cond p (front a) (ends a)
              by true q h = absurd (false≢true h)
              by false true h = sym (ends-pass (front b) (pass-unit (front b) (front-pass b)) a)
              by false false h = absurd (false≢true h)

      solved : (e d : Exp) → left-of past (plus e (minus d)) ≡ [] → value 𝓐 ρ e ≡ value 𝓐 ρ d
      solved = solve 𝓛 ρ past follows

      product-of : S f ⋆ S t ≡ S (λ r c. 𝟘 ⊹ f r 0 ⋆ t 0 c ⊹ f r 1 ⋆ t 1 c)
      unfolding xor
      product-of =
          solved (times first_e second_e) (pairs_e (λ j k. times (var (8 + j)) (var (8 + k)))) refl
          ∙ (λ i. sum4 (λ j. ρ j ⋆ sum4 (λ k. ρ (4 + k) ⋆ unit-mul (j / 2) (j % 2) (k / 2) (k % 2) i)))
          ∙ solved (pairs_e (λ j k. met_e (j % 2) (k / 2) (var (8 + 2 * (j / 2) + k % 2)))) matrix_e refl

      -- the sum between <r'| and |c'>
      between-ends : E 0 r' ⋆ S f ⋆ E c' 0 ≡ sum4 (λ j. ρ j ⋆ met r' (j / 2) (met (j % 2) c' (E 0 0)))
      unfolding xor
      between-ends =
          solved (times (times (var 12) first_e) (var 13)) (each_e (λ j. times (times (var 12) (var (8 + j))) (var 13))) refl
          ∙ (λ i. sum4 (λ j. ρ j ⋆ unit-between r' (j / 2) (j % 2) c' i))

    -- the product of the sums is the sum of the product
    pub spread-mul : (f t : ℕ → ℕ → N) → Apart f → Apart t → S f ⋆ S t ≡ S (λ r c. 𝟘 ⊹ f r 0 ⋆ t 0 c ⊹ f r 1 ⋆ t 1 c)
    spread-mul f t pf pt = product-of f t pf pt 0 0

    -- an entry taken out again
    pub pick : (f : ℕ → ℕ → N) → Apart f → (r c : ℕ) → r < 2 → c < 2 → E 0 r ⋆ (S f ⋆ E c 0) ≡ f r c ⋆ E 0 0
    unfolding xor
    pick f pf r c hr hc =
        sym (𝓛.mul-assoc (E 0 r) (S f) (E c 0))
        ∙ below-two (λ r. E 0 r ⋆ S f ⋆ E c 0 ≡ f r c ⋆ E 0 0)
        (below-two (λ c. E 0 0 ⋆ S f ⋆ E c 0 ≡ f 0 c ⋆ E 0 0)
        (between-ends f f pf pf 0 0 ∙ solved f f pf pf 0 0 (ends_e 0 0) (times (var 0) (var 8)) refl)
        (between-ends f f pf pf 0 1 ∙ solved f f pf pf 0 1 (ends_e 0 1) (times (var 1) (var 8)) refl) c hc)
        (below-two (λ c. E 0 1 ⋆ S f ⋆ E c 0 ≡ f 1 c ⋆ E 0 0)
        (between-ends f f pf pf 1 0 ∙ solved f f pf pf 1 0 (ends_e 1 0) (times (var 2) (var 8)) refl)
        (between-ends f f pf pf 1 1 ∙ solved f f pf pf 1 1 (ends_e 1 1) (times (var 3) (var 8)) refl) c hc) r hr

    -- ---- sums of sums, and factors in front

    module _ (f t : ℕ → ℕ → N) (a : N) where
      abbrev σ : ℕ → N
      σ j =
          cond (ltb j 8) (cond (ltb j 4) (f (j / 2) (j % 2)) (t ((j - 4) / 2) ((j - 4) % 2)))
          (cond (ltb j 12) (En (j - 8)) a)

      loosely : (e d : Exp) → left-of free (plus e (minus d)) ≡ [] → value 𝓐 σ e ≡ value 𝓐 σ d
      loosely = solve 𝓛 σ free (obeys-free 𝓛 σ)

    pub spread-add : (f t : ℕ → ℕ → N) → S (λ r c. f r c ⊹ t r c) ≡ S f ⊹ S t
    unfolding xor
    spread-add f t = loosely f t 𝟘 (over_e (λ j. plus (var j) (var (4 + j)))) (plus first_e second_e) refl

    pub spread-scale : (a : N) (f : ℕ → ℕ → N) → S (λ r c. a ⋆ f r c) ≡ a ⋆ S f
    unfolding xor
    spread-scale a f = loosely f f a (over_e (λ j. times (var 12) (var j))) (times (var 12) first_e) refl

    pub spread-neg : (f : ℕ → ℕ → N) → S (λ r c. neg (f r c)) ≡ neg (S f)
    unfolding xor
    spread-neg f = loosely f f 𝟘 (over_e (λ j. minus (var j))) (minus first_e) refl

    pub spread-nought : S (λ r c. 𝟘) ≡ 𝟘
    unfolding xor
    spread-nought = loosely (λ r c. 𝟘) (λ r c. 𝟘) 𝟘 (over_e (λ j. nought)) nought refl

    -- nought on the diagonal, or beside it
    pub beside : (f : ℕ → ℕ → N) → f 0 0 ≡ 𝟘 → f 1 1 ≡ 𝟘 → S f ≡ f 0 1 ⋆ E 0 1 ⊹ f 1 0 ⋆ E 1 0
    unfolding xor
    beside f e d =
        (λ i. e i ⋆ E 0 0 ⊹ f 0 1 ⋆ E 0 1 ⊹ (f 1 0 ⋆ E 1 0 ⊹ d i ⋆ E 1 1))
        ∙ loosely f f 𝟘 (plus (plus (times nought (var 8)) (times (var 1) (var 9))) (plus (times (var 2) (var 10)) (times nought (var 11))))
        (plus (times (var 1) (var 9)) (times (var 2) (var 10))) refl

    pub along : (f : ℕ → ℕ → N) → f 0 1 ≡ 𝟘 → f 1 0 ≡ 𝟘 → S f ≡ f 0 0 ⋆ E 0 0 ⊹ f 1 1 ⋆ E 1 1
    unfolding xor
    along f e d =
        (λ i. f 0 0 ⋆ E 0 0 ⊹ e i ⋆ E 0 1 ⊹ (d i ⋆ E 1 0 ⊹ f 1 1 ⋆ E 1 1))
        ∙ loosely f f 𝟘 (plus (plus (times (var 0) (var 8)) (times nought (var 9))) (plus (times nought (var 10)) (times (var 3) (var 11))))
        (plus (times (var 0) (var 8)) (times (var 3) (var 11))) refl

    pub spread-same : (f t : ℕ → ℕ → N) → ((r c : ℕ) → r < 2 → c < 2 → f r c ≡ t r c) → S f ≡ S t
    spread-same f t e =
        λ i. e 0 0 (lit< tt) (lit< tt) i ⋆ E 0 0 ⊹ e 0 1 (lit< tt) (lit< tt) i ⋆ E 0 1
        ⊹ (e 1 0 (lit< tt) (lit< tt) i ⋆ E 1 0 ⊹ e 1 1 (lit< tt) (lit< tt) i ⋆ E 1 1)

    -- |0><0| |0..0> = |0..0>
    pub vac-ket : (a : N) → 𝓠.vac (a ⋆ E 0 0) ≡ 𝓠.vac a
    vac-ket a =
        ap 𝓠.vac (sym (𝓛.mul-assoc a (𝓠.num 𝓔.half) (𝟙 ⊹ 𝓠.pauli z k)) ∙ ap (λ b. b ⋆ (𝟙 ⊹ 𝓠.pauli z k)) (pass-num a 𝓔.half)
        ∙ 𝓛.mul-assoc (𝓠.num 𝓔.half) a (𝟙 ⊹ 𝓠.pauli z k)
        ∙ ap (λ b. 𝓠.num 𝓔.half ⋆ b) (𝓛.left a 𝟙 (𝓠.pauli z k) ∙ ap (λ b. b ⊹ a ⋆ 𝓠.pauli z k) (𝓛.mul-one a)))
        ∙ 𝓠.vac-num 𝓔.half (a ⊹ a ⋆ 𝓠.pauli z k)
        ∙ ap (λ s. 𝓝.mul 𝓔.half s) (𝓠.vac-add a (a ⋆ 𝓠.pauli z k) ∙ ap (λ s. 𝓝.add (𝓠.vac a) s) (𝓠.ket k a h))
        ∙ 𝓔.laws.ring.left 𝓔.half (𝓠.vac a) (𝓠.vac a)
        ∙ sym (𝓔.laws.ring.right 𝓔.half 𝓔.half (𝓠.vac a))
        ∙ ap (λ s. 𝓝.mul s (𝓠.vac a)) 𝓔.halves
        ∙ 𝓔.laws.ring.one-mul (𝓠.vac a)
