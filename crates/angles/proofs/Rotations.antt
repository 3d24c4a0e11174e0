-- Blocks at any angle, so that the angle theorem speaks of something: for numbers c and s with c c + s s = 1, exp of the angle about X X of two neighbours; and
-- X of one mode, whose determinant is -1. Assumes nothing.
use mathlib.Core.Path.{◌≡◌, refl, sym, ap, ◌∙◌}
use mathlib.Core.Logic.{◌⊎◌, inl, inr, ◌≢◌}
use mathlib.Core.Bool.{Bool, true, false, cond, xor, false≢true}
use mathlib.Core.List.{[]}
use Prim.Native.Nat.{ℕ, zero, suc, ◌+◌, ◌*◌, ◌/◌, ◌%◌, ◌≤◌, ◌<◌}
use native.Mathlib.Omega.{arith}
use lib.Dec.{eqb}
use Rattle.rings.specs.Rings.{Ops, IsRing, sg}
use Rattle.formulas.specs.Numbers.{Exact}
use Rattle.formulas.specs.Engine.{Mat}
use Rattle.angles.specs.Qubits.{Axis, x, y, z, Operators, zs, which, gamma}
use Rattle.angles.specs.Angles.{combined, Block}
use Rattle.laws.proofs.Below.{below-two, below-four}
use Rattle.rings.proofs.Solve.{Exp, var, nought, unit, plus, times, minus, left-of, value, solve}
use Rattle.rings.proofs.Rings.{sg-mul}
use Rattle.angles.proofs.Passing.{Pass, pass-mul}
use Rattle.angles.proofs.Majoranas.{zs-early, zs-late, zs-z, which-which, gamma-square, gamma-anti, gamma-first, gamma-second}
use Rattle.angles.proofs.Clifford.{rules, scalar, env, obeys, scalars, op}

-- ---- terms: c is var 0, s is var 1

abbrev cos_e : Exp
cos_e = plus (times (var 0) (var 0)) (minus (times (var 1) (var 1)))

abbrev sin_e : Exp
sin_e = plus (times (var 0) (var 1)) (times (var 0) (var 1))

-- the turn of the plane of a and b; c c + s s is 1
abbrev plane_e : ℕ → ℕ → ℕ → ℕ → Exp
plane_e a b d e =
    cond (eqb d a) (cond (eqb e a) cos_e (cond (eqb e b) sin_e nought))
    (cond (eqb d b) (cond (eqb e a) (minus sin_e) (cond (eqb e b) cos_e nought)) (cond (eqb d e) (plus (times (var 0) (var 0)) (times (var 1) (var 1))) nought))

-- 1 and -1
abbrev flip_e : ℕ → ℕ → Exp
flip_e d e = cond (eqb d e) (cond (eqb d 0) unit (minus unit)) nought

-- c + s gamma_a gamma_b, and its inverse
abbrev forth : ℕ → ℕ → Exp
forth a b = plus (var 0) (times (var 1) (times (op a) (op b)))

abbrev back : ℕ → ℕ → Exp
back a b = plus (var 0) (minus (times (var 1) (times (op a) (op b))))

-- a row of a map, times the operators
abbrev row_e : (ℕ → Exp) → ℕ → Exp
row_e q zero = nought
row_e q (suc w) = plus (row_e q w) (times (q w) (op w))

-- X and Y turn with Z
abbrev flips : Axis → Bool
flips x = true
flips y = true
flips z = false

module _ {𝓝 : Ops} {below : 𝓝.N → Bool} (𝓔 : Exact 𝓝 below) {n : ℕ} {𝓐 : Ops} (𝓠 : Operators 𝓝 𝓔.i n 𝓐) where
  open 𝓐 use {N, zero as 𝟘, one as 𝟙, add as ◌⊹◌, mul as ◌⋆◌, neg}

  infixl 65 ◌⊹◌
  infixl 70 ◌⋆◌
  abbrev 𝓛 : IsRing 𝓐
  𝓛 = 𝓠.ring

  -- ---- a Pauli of another qubit against a Majorana operator

  early-pass : (p : Axis) (j r : ℕ) → r / 2 < j → j < n → Pass 𝓐 false (𝓠.pauli p j) (gamma 𝓠 r)
  unfolding xor
  early-pass p j r h l =
      pass-mul 𝓛 false false (𝓠.pauli p j) (zs 𝓠 (r / 2)) (𝓠.pauli (which 𝓠 (eqb (r % 2) 1)) (r / 2))
      (zs-early 𝓔 𝓠 p j (r / 2) l (omega arith)) (𝓠.apart p (which 𝓠 (eqb (r % 2) 1)) j (r / 2) l (omega arith) (omega arith))

  zs-pass : (p : Axis) (j k : ℕ) → j < k → k ≤ n → Pass 𝓐 (flips p) (𝓠.pauli p j) (zs 𝓠 k)
  zs-pass x j k h l = zs-late 𝓔 𝓠 false j k h l
  zs-pass y j k h l = zs-late 𝓔 𝓠 true j k h l
  zs-pass z j k h l = zs-z 𝓔 𝓠 j k (omega arith) l

  late-pass : (p : Axis) (j r : ℕ) → j < r / 2 → r < 2 * n → Pass 𝓐 (xor (flips p) false) (𝓠.pauli p j) (gamma 𝓠 r)
  late-pass p j r h l =
      pass-mul 𝓛 (flips p) false (𝓠.pauli p j) (zs 𝓠 (r / 2)) (𝓠.pauli (which 𝓠 (eqb (r % 2) 1)) (r / 2))
      (zs-pass p j (r / 2) h (omega arith)) (𝓠.apart p (which 𝓠 (eqb (r % 2) 1)) j (r / 2) (omega arith) (omega arith) (omega arith))

  xor-self : (a : Bool) → xor a a ≡ false
  unfolding xor
  xor-self false = refl
  xor-self true = refl

  -- against two of them that stand on the same side
  pair-pass : (p : Axis) (j a b : ℕ) → j < n → a < 2 * n → b < 2 * n → ((j < a / 2) × (j < b / 2)) ⊎ ((a / 2 < j) × (b / 2 < j))
      → Pass 𝓐 false (𝓠.pauli p j) (gamma 𝓠 a ⋆ gamma 𝓠 b)
  unfolding xor
  pair-pass p j a b h ha hb (inl d) =
      pass-mul 𝓛 (xor (flips p) false) (xor (flips p) false) (𝓠.pauli p j) (gamma 𝓠 a) (gamma 𝓠 b) (late-pass p j a d.0 ha) (late-pass p j b d.1 hb)
      ∙ ap (λ t. sg 𝓐 t (gamma 𝓠 a ⋆ gamma 𝓠 b ⋆ 𝓠.pauli p j)) (xor-self (xor (flips p) false))
  pair-pass p j a b h ha hb (inr d) =
      pass-mul 𝓛 false false (𝓠.pauli p j) (gamma 𝓠 a) (gamma 𝓠 b) (early-pass p j a d.0 h) (early-pass p j b d.1 h)

  pass-add : (a b d : N) → Pass 𝓐 false a b → Pass 𝓐 false a d → Pass 𝓐 false a (b ⊹ d)
  pass-add a b d e f = 𝓛.left a b d ∙ (λ i. e i ⊹ f i) ∙ sym (𝓛.right b d a)

  -- ---- turns

  module _ (c s : 𝓝.N) (unitary : 𝓝.add (𝓝.mul c c) (𝓝.mul s s) ≡ 𝓝.one) (k : ℕ) where
    abbrev angles : ℕ → 𝓝.N
    angles zero = c
    angles (suc a) = s

    abbrev own-gamma : ℕ → N
    own-gamma b = gamma 𝓠 (2 * k + b)

    module _ (w : ℕ) (room : 2 * k + w ≤ 2 * n) where
      pub anti : (a b : ℕ) → a < w → b < w → a ≢ b → Pass 𝓐 true (own-gamma a) (own-gamma b)
      anti a b l m d = gamma-anti 𝓔 𝓠 (2 * k + a) (2 * k + b) (omega arith) (omega arith) (λ e. d (omega (arith, e)))

      pub square : (a : ℕ) → a < w → own-gamma a ⋆ own-gamma a ≡ 𝟙
      square a l = gamma-square 𝓔 𝓠 (2 * k + a) (omega arith)

      abbrev val : Exp → N
      val = value 𝓐 (env 𝓔 𝓠 w own-gamma anti square angles)

      pub by-rules : (e f : Exp) → left-of (rules w) (plus e (minus f)) ≡ [] → val e ≡ val f
      by-rules = solve 𝓛 (env 𝓔 𝓠 w own-gamma anti square angles) (rules w) (obeys 𝓔 𝓠 w own-gamma anti square angles)

      -- c c + s s
      pub whole : val (plus (times (var 0) (var 0)) (times (var 1) (var 1))) ≡ 𝟙
      whole =
          scalars 𝓔 𝓠 w own-gamma anti square angles (plus (times (var 0) (var 0)) (times (var 1) (var 1))) refl
          ∙ ap 𝓠.num unitary ∙ 𝓠.num-one

      -- the map's entries
      abbrev entries : (ℕ → ℕ → Exp) → Mat 𝓝
      entries q d e = value 𝓝 angles (q d e)

      pub num-is : (e : Exp) → scalar e ≡ true → val e ≡ 𝓠.num (value 𝓝 angles e)
      num-is = scalars 𝓔 𝓠 w own-gamma anti square angles

      -- U commutes with the Paulis of the other qubits
      pub own-u : (a b m : ℕ) → 2 * m ≡ w → a < w → b < w → (p : Axis) (j : ℕ) → j < n → (j < k) ⊎ (k + m ≤ j)
          → Pass 𝓐 false (𝓠.pauli p j) (𝓠.num c ⊹ 𝓠.num s ⋆ (own-gamma a ⋆ own-gamma b))
      unfolding xor
      own-u a b m e ha hb p j h d =
          pass-add (𝓠.pauli p j) (𝓠.num c) (𝓠.num s ⋆ (own-gamma a ⋆ own-gamma b)) (sym (𝓠.central c (𝓠.pauli p j)))
          (pass-mul 𝓛 false false (𝓠.pauli p j) (𝓠.num s) (own-gamma a ⋆ own-gamma b) (sym (𝓠.central s (𝓠.pauli p j)))
          (pair-pass p j (2 * k + a) (2 * k + b) h (omega arith) (omega arith) (by d)))
        where
          by : (j < k) ⊎ (k + m ≤ j) → ((j < (2 * k + a) / 2) × (j < (2 * k + b) / 2)) ⊎ (((2 * k + a) / 2 < j) × ((2 * k + b) / 2 < j))
          by (inl l) = inl (omega arith, omega arith)
          by (inr l) = inr (omega arith, omega arith)

    -- exp of an angle about X X of the modes k and k + 1: the plane of their second and third Majorana operators
    unfoldable pub turn-two : k + 2 ≤ n → Block 𝓠
    unfolding xor combined
    turn-two h = record {
      start = k;
      modes = 2;
      few = inr refl;
      fits = h;
      u = val 4 room (forth 1 2);
      v = val 4 room (back 1 2);
      vu = by-rules 4 room (times (back 1 2) (forth 1 2)) (plus (times (var 0) (var 0)) (times (var 1) (var 1))) refl ∙ whole 4 room;
      uv = by-rules 4 room (times (forth 1 2) (back 1 2)) (plus (times (var 0) (var 0)) (times (var 1) (var 1))) refl ∙ whole 4 room;
      own = own-u 4 room 1 2 2 refl (omega arith) (omega arith);
      map = entries 4 room (plane_e 1 2);
      sends = below-four
          (λ a. val 4 room (back 1 2) ⋆ (own-gamma a ⋆ val 4 room (forth 1 2)) ≡ combined 𝓠 (entries 4 room (plane_e 1 2) a) own-gamma 4)
          (by-rules 4 room (times (back 1 2) (times (op 0) (forth 1 2))) (row_e (plane_e 1 2 0) 4) refl ∙ row 0 refl refl refl refl)
          (by-rules 4 room (times (back 1 2) (times (op 1) (forth 1 2))) (row_e (plane_e 1 2 1) 4) refl ∙ row 1 refl refl refl refl)
          (by-rules 4 room (times (back 1 2) (times (op 2) (forth 1 2))) (row_e (plane_e 1 2 2) 4) refl ∙ row 2 refl refl refl refl)
          (by-rules 4 room (times (back 1 2) (times (op 3) (forth 1 2))) (row_e (plane_e 1 2 3) 4) refl ∙ row 3 refl refl refl refl);
    }
      where
        room : 2 * k + 4 ≤ 2 * n
        room = omega arith

        row : (d : ℕ) → scalar (plane_e 1 2 d 0) ≡ true → scalar (plane_e 1 2 d 1) ≡ true → scalar (plane_e 1 2 d 2) ≡ true → scalar (plane_e 1 2 d 3) ≡ true
            → val 4 room (row_e (plane_e 1 2 d) 4) ≡ combined 𝓠 (entries 4 room (plane_e 1 2) d) own-gamma 4
        row d h₀ h₁ h₂ h₃ =
            λ i. 𝟘 ⊹ num-is 4 room (plane_e 1 2 d 0) h₀ i ⋆ own-gamma 0 ⊹ num-is 4 room (plane_e 1 2 d 1) h₁ i ⋆ own-gamma 1
            ⊹ num-is 4 room (plane_e 1 2 d 2) h₂ i ⋆ own-gamma 2 ⊹ num-is 4 room (plane_e 1 2 d 3) h₃ i ⋆ own-gamma 3

  -- ---- X of mode k: its determinant is -1

  module _ (k : ℕ) (h : k < n) where
    abbrev pair-gamma : ℕ → N
    pair-gamma b = gamma 𝓠 (2 * k + b)

    abbrev u-x : N
    u-x = 𝓠.pauli x k

    abbrev no : ℕ → 𝓝.N
    no a = 𝓝.zero

    pub anti-x : (a b : ℕ) → a < 2 → b < 2 → a ≢ b → Pass 𝓐 true (pair-gamma a) (pair-gamma b)
    anti-x a b l m d = gamma-anti 𝓔 𝓠 (2 * k + a) (2 * k + b) (omega arith) (omega arith) (λ e. d (omega (arith, e)))

    pub square-x : (a : ℕ) → a < 2 → pair-gamma a ⋆ pair-gamma a ≡ 𝟙
    square-x a l = gamma-square 𝓔 𝓠 (2 * k + a) (omega arith)

    -- X γ X = γ or -γ
    pub past-x : (t : Bool) (a : N) → Pass 𝓐 t u-x a → u-x ⋆ (a ⋆ u-x) ≡ sg 𝓐 t a
    past-x t a e =
        sym (𝓛.mul-assoc u-x a u-x) ∙ ap (λ b. b ⋆ u-x) e ∙ sg-mul 𝓛 t (a ⋆ u-x) u-x
        ∙ ap (sg 𝓐 t) (𝓛.mul-assoc a u-x u-x ∙ ap (λ b. a ⋆ b) (𝓠.square x k h) ∙ 𝓛.mul-one a)

    pub pass-first : Pass 𝓐 false u-x (pair-gamma 0)
    unfolding xor
    pass-first =
        ap (λ a. u-x ⋆ a) is ∙ pass-mul 𝓛 false false u-x (zs 𝓠 k) u-x (zs-early 𝓔 𝓠 x k k h (omega arith)) refl ∙ ap (λ a. a ⋆ u-x) (sym is)
      where
        none : 2 * k + 0 ≡ 2 * k
        none = omega arith

        is : pair-gamma 0 ≡ zs 𝓠 k ⋆ u-x
        is = ap (gamma 𝓠) none ∙ gamma-first 𝓔 𝓠 k

    pub pass-second : Pass 𝓐 true u-x (pair-gamma 1)
    unfolding xor
    pass-second =
        ap (λ a. u-x ⋆ a) (gamma-second 𝓔 𝓠 k)
        ∙ pass-mul 𝓛 false true u-x (zs 𝓠 k) (𝓠.pauli y k) (zs-early 𝓔 𝓠 x k k h (omega arith)) (which-which 𝓔 𝓠 k h false true (λ e. false≢true e))
        ∙ ap (λ a. neg (a ⋆ u-x)) (sym (gamma-second 𝓔 𝓠 k))

    unfoldable pub flip-x : Block 𝓠
    unfolding xor combined
    flip-x = record {
      start = k;
      modes = 1;
      few = inl refl;
      fits = omega arith;
      u = u-x;
      v = u-x;
      vu = 𝓠.square x k h;
      uv = 𝓠.square x k h;
      own = λ p j l d. 𝓠.apart p x j k l h (by j d);
      map = λ d e. value 𝓝 no (flip_e d e);
      sends = below-two
          (λ a. u-x ⋆ (pair-gamma a ⋆ u-x) ≡ combined 𝓠 (λ e. value 𝓝 no (flip_e a e)) pair-gamma 2)
          (past-x false (pair-gamma 0) pass-first ∙ line (op 0) 0 refl refl refl)
          (past-x true (pair-gamma 1) pass-second ∙ line (minus (op 1)) 1 refl refl refl);
    }
      where
        by : (j : ℕ) → (j < k) ⊎ (k + 1 ≤ j) → j ≢ k
        by j (inl l) = omega arith
        by j (inr l) = omega arith

        line : (e : Exp) (d : ℕ) → left-of (rules 2) (plus e (minus (row_e (flip_e d) 2))) ≡ [] → scalar (flip_e d 0) ≡ true → scalar (flip_e d 1) ≡ true
            → value 𝓐 (env 𝓔 𝓠 2 pair-gamma anti-x square-x no) e ≡ combined 𝓠 (λ e. value 𝓝 no (flip_e d e)) pair-gamma 2
        line e d q h₀ h₁ =
            solve 𝓛 (env 𝓔 𝓠 2 pair-gamma anti-x square-x no) (rules 2) (obeys 𝓔 𝓠 2 pair-gamma anti-x square-x no) e (row_e (flip_e d) 2) q
            ∙ (λ i. 𝟘 ⊹ scalars 𝓔 𝓠 2 pair-gamma anti-x square-x no (flip_e d 0) h₀ i ⋆ pair-gamma 0
            ⊹ scalars 𝓔 𝓠 2 pair-gamma anti-x square-x no (flip_e d 1) h₁ i ⋆ pair-gamma 1)
