-- The Majorana operators anticommute, and each is its own inverse; Z of a mode is -i times its two. Assumes nothing.
use mathlib.Core.Path.{◌≡◌, refl, sym, ap, subst, ◌∙◌}
use mathlib.Core.Logic.{◌≢◌}
use mathlib.Core.Bool.{Bool, true, false, xor, false≢true}
use Prim.Native.Nat.{ℕ, zero, suc, ◌+◌, ◌*◌, ◌/◌, ◌%◌, ◌≤◌, ◌<◌}
use native.Mathlib.Omega.{arith}
use lib.Dec.{eqb, ltb}
use borrow.Author.Tests.{ltb-true, ltb-false, eqb-true, eqb-false, eq-eqb, ne_eqb}
use Rattle.rings.specs.Rings.{Ops, IsRing}
use Rattle.formulas.specs.Numbers.{Exact}
use Rattle.angles.specs.Qubits.{Axis, x, y, z, Operators, zs, which, major, gamma}
use Rattle.rings.proofs.Rings.{neg-mul, neg-neg, neg-unique, add-cancel}
use Rattle.angles.proofs.Passing.{Pass, pass-one, pass-back, pass-mul, mul-pass, exchanged, turns}

pub data Order (j k : ℕ) : Type 0 where
  less : j < k → Order j k
  same : j ≡ k → Order j k
  more : k < j → Order j k

pub order : (j k : ℕ) → Order j k
order j k = by (ltb j k) refl (ltb k j) refl
  where
    by : (b : Bool) → ltb j k ≡ b → (c : Bool) → ltb k j ≡ c → Order j k
    by true e c f = less (ltb-true j k e)
    by false e true f = more (ltb-true k j f)
    by false e false f = same (omega (arith, ltb-false j k e, ltb-false k j f))

module _ {𝓝 : Ops} {below : 𝓝.N → Bool} (𝓔 : Exact 𝓝 below) {n : ℕ} {𝓐 : Ops} (𝓠 : Operators 𝓝 𝓔.i n 𝓐) where
  open 𝓐 use {zero as 𝟘, one as 𝟙, mul as ◌⋆◌, neg}

  infixl 70 ◌⋆◌
  abbrev 𝓛 : IsRing 𝓐
  𝓛 = 𝓠.ring

  -- ---- numbers among the operators

  pub num-zero : 𝓠.num 𝓝.zero ≡ 𝟘
  num-zero =
      add-cancel 𝓛 (𝓠.num 𝓝.zero) (𝓠.num 𝓝.zero) 𝟘
      (sym (𝓠.num-add 𝓝.zero 𝓝.zero) ∙ ap 𝓠.num (𝓔.laws.ring.add-zero 𝓝.zero) ∙ sym (𝓛.add-zero (𝓠.num 𝓝.zero)))

  pub num-neg : (s : 𝓝.N) → 𝓠.num (𝓝.neg s) ≡ neg (𝓠.num s)
  num-neg s =
      neg-unique 𝓛 (𝓠.num s) (𝓠.num (𝓝.neg s)) (sym (𝓠.num-add s (𝓝.neg s)) ∙ ap 𝓠.num (𝓔.laws.ring.add-neg s) ∙ num-zero)

  pub i-i : 𝓠.num 𝓔.i ⋆ 𝓠.num 𝓔.i ≡ neg 𝟙
  i-i = sym (𝓠.num-mul 𝓔.i 𝓔.i) ∙ ap 𝓠.num 𝓔.i-square ∙ num-neg 𝓝.one ∙ ap neg 𝓠.num-one

  -- ---- Paulis of one qubit

  module _ (k : ℕ) (h : k < n) where
    x-y : Pass 𝓐 true (𝓠.pauli x k) (𝓠.pauli y k)
    x-y = turns 𝓛 (𝓠.pauli x k) (𝓠.pauli y k) (𝓠.pauli z k) (𝓠.num 𝓔.i) (𝓠.square x k h) (𝓠.square y k h) (𝓠.square z k h) (𝓠.xy k h) i-i
        (𝓠.central 𝓔.i (𝓠.pauli z k))

    y-z : Pass 𝓐 true (𝓠.pauli y k) (𝓠.pauli z k)
    y-z = turns 𝓛 (𝓠.pauli y k) (𝓠.pauli z k) (𝓠.pauli x k) (𝓠.num 𝓔.i) (𝓠.square y k h) (𝓠.square z k h) (𝓠.square x k h) (𝓠.yz k h) i-i
        (𝓠.central 𝓔.i (𝓠.pauli x k))

    z-x : Pass 𝓐 true (𝓠.pauli z k) (𝓠.pauli x k)
    z-x = turns 𝓛 (𝓠.pauli z k) (𝓠.pauli x k) (𝓠.pauli y k) (𝓠.num 𝓔.i) (𝓠.square z k h) (𝓠.square x k h) (𝓠.square y k h) (𝓠.zx k h) i-i
        (𝓠.central 𝓔.i (𝓠.pauli y k))

    pub which-z : (b : Bool) → Pass 𝓐 true (𝓠.pauli (which 𝓠 b) k) (𝓠.pauli z k)
    which-z false = pass-back 𝓛 true (𝓠.pauli z k) (𝓠.pauli x k) z-x
    which-z true = y-z

    pub which-which : (b c : Bool) → b ≢ c → Pass 𝓐 true (𝓠.pauli (which 𝓠 b) k) (𝓠.pauli (which 𝓠 c) k)
    which-which false false d = absurd (d refl)
    which-which false true d = x-y
    which-which true false d = pass-back 𝓛 true (𝓠.pauli x k) (𝓠.pauli y k) x-y
    which-which true true d = absurd (d refl)

  -- ---- Z on the first k qubits

  -- a Pauli of a later qubit commutes with it
  pub zs-early : (p : Axis) (j k : ℕ) → j < n → k ≤ j → Pass 𝓐 false (𝓠.pauli p j) (zs 𝓠 k)
  unfolding zs xor
  zs-early p j zero h l = pass-one 𝓛 (𝓠.pauli p j)
  zs-early p j (suc k) h l =
      pass-mul 𝓛 false false (𝓠.pauli p j) (zs 𝓠 k) (𝓠.pauli z k) (zs-early p j k h (omega arith))
      (𝓠.apart p z j k h (omega arith) (omega arith))

  -- Z of every qubit does
  pub zs-z : (j k : ℕ) → j < n → k ≤ n → Pass 𝓐 false (𝓠.pauli z j) (zs 𝓠 k)
  unfolding zs xor
  zs-z j zero h l = pass-one 𝓛 (𝓠.pauli z j)
  zs-z j (suc k) h l =
      pass-mul 𝓛 false false (𝓠.pauli z j) (zs 𝓠 k) (𝓠.pauli z k) (zs-z j k h (omega arith)) (by (order j k))
    where
      by : Order j k → Pass 𝓐 false (𝓠.pauli z j) (𝓠.pauli z k)
      by (less g) = 𝓠.apart z z j k h l (omega arith)
      by (same g) = ap (λ m. 𝓠.pauli z m ⋆ 𝓠.pauli z k) g ∙ ap (λ m. 𝓠.pauli z k ⋆ 𝓠.pauli z m) (sym g)
      by (more g) = 𝓠.apart z z j k h l (omega arith)

  zs-zs : (j k : ℕ) → j ≤ n → k ≤ n → Pass 𝓐 false (zs 𝓠 j) (zs 𝓠 k)
  unfolding zs xor
  zs-zs zero k h l = pass-back 𝓛 false (zs 𝓠 k) 𝟙 (pass-one 𝓛 (zs 𝓠 k))
  zs-zs (suc j) k h l = mul-pass 𝓛 false false (zs 𝓠 j) (𝓠.pauli z j) (zs 𝓠 k) (zs-zs j k (omega arith) l) (zs-z j k h l)

  -- X and Y of an earlier qubit anticommute with it
  pub zs-late : (b : Bool) (j k : ℕ) → j < k → k ≤ n → Pass 𝓐 true (𝓠.pauli (which 𝓠 b) j) (zs 𝓠 k)
  unfolding zs xor
  zs-late b j zero h l = absurd (omega arith)
  zs-late b j (suc k) h l = by (order j k) (λ g. zs-late b j k g (omega arith))
    where
      by : Order j k → (j < k → Pass 𝓐 true (𝓠.pauli (which 𝓠 b) j) (zs 𝓠 k)) → Pass 𝓐 true (𝓠.pauli (which 𝓠 b) j) (zs 𝓠 k ⋆ 𝓠.pauli z k)
      by (less g) ih =
          pass-mul 𝓛 true false (𝓠.pauli (which 𝓠 b) j) (zs 𝓠 k) (𝓠.pauli z k) (ih g)
          (𝓠.apart (which 𝓠 b) z j k (omega arith) l (omega arith))
      by (same g) ih =
          pass-mul 𝓛 false true (𝓠.pauli (which 𝓠 b) j) (zs 𝓠 k) (𝓠.pauli z k) (zs-early (which 𝓠 b) j k (omega arith) (omega arith))
          (subst (λ m. Pass 𝓐 true (𝓠.pauli (which 𝓠 b) m) (𝓠.pauli z k)) (sym g) (which-z k l b))
      by (more g) ih = absurd (omega arith)

  pub zs-square : (k : ℕ) → k ≤ n → zs 𝓠 k ⋆ zs 𝓠 k ≡ 𝟙
  unfolding zs
  zs-square zero l = 𝓛.one-mul 𝟙
  zs-square (suc k) l =
      exchanged 𝓛 (zs 𝓠 k) (𝓠.pauli z k) (zs 𝓠 k) (𝓠.pauli z k) (zs-early z k k l (omega arith))
      ∙ (λ i. zs-square k (omega arith) i ⋆ 𝓠.square z k l i)
      ∙ 𝓛.one-mul 𝟙

  -- ---- Majorana operators

  major-less : (j k : ℕ) (b c : Bool) → j < k → k < n → Pass 𝓐 true (major 𝓠 j b) (major 𝓠 k c)
  unfolding xor
  major-less j k b c l h =
      mul-pass 𝓛 false true (zs 𝓠 j) (𝓠.pauli (which 𝓠 b) j) (major 𝓠 k c)
      (pass-mul 𝓛 false false (zs 𝓠 j) (zs 𝓠 k) (𝓠.pauli (which 𝓠 c) k) (zs-zs j k (omega arith) (omega arith))
      (pass-back 𝓛 false (𝓠.pauli (which 𝓠 c) k) (zs 𝓠 j) (zs-early (which 𝓠 c) k j h (omega arith))))
      (pass-mul 𝓛 true false (𝓠.pauli (which 𝓠 b) j) (zs 𝓠 k) (𝓠.pauli (which 𝓠 c) k) (zs-late b j k l (omega arith))
      (𝓠.apart (which 𝓠 b) (which 𝓠 c) j k (omega arith) h (omega arith)))

  major-same : (k : ℕ) (b c : Bool) → b ≢ c → k < n → Pass 𝓐 true (major 𝓠 k b) (major 𝓠 k c)
  unfolding xor
  major-same k b c d h =
      mul-pass 𝓛 false true (zs 𝓠 k) (𝓠.pauli (which 𝓠 b) k) (major 𝓠 k c)
      (pass-mul 𝓛 false false (zs 𝓠 k) (zs 𝓠 k) (𝓠.pauli (which 𝓠 c) k) refl
      (pass-back 𝓛 false (𝓠.pauli (which 𝓠 c) k) (zs 𝓠 k) (zs-early (which 𝓠 c) k k h (omega arith))))
      (pass-mul 𝓛 false true (𝓠.pauli (which 𝓠 b) k) (zs 𝓠 k) (𝓠.pauli (which 𝓠 c) k) (zs-early (which 𝓠 b) k k h (omega arith))
      (which-which k h b c d))

  major-square : (k : ℕ) (b : Bool) → k < n → major 𝓠 k b ⋆ major 𝓠 k b ≡ 𝟙
  major-square k b h =
      exchanged 𝓛 (zs 𝓠 k) (𝓠.pauli (which 𝓠 b) k) (zs 𝓠 k) (𝓠.pauli (which 𝓠 b) k) (zs-early (which 𝓠 b) k k h (omega arith))
      ∙ (λ i. zs-square k (omega arith) i ⋆ 𝓠.square (which 𝓠 b) k h i)
      ∙ 𝓛.one-mul 𝟙

  pub gamma-square : (r : ℕ) → r < 2 * n → gamma 𝓠 r ⋆ gamma 𝓠 r ≡ 𝟙
  gamma-square r h = major-square (r / 2) (eqb (r % 2) 1) (omega arith)

  -- the half of a number and whether it is odd
  halves-same : (r c : ℕ) → r / 2 ≡ c / 2 → eqb (r % 2) 1 ≡ eqb (c % 2) 1 → r ≡ c
  halves-same r c e f = by (eqb (r % 2) 1) refl (eqb (c % 2) 1) refl
    where
      by : (a : Bool) → eqb (r % 2) 1 ≡ a → (b : Bool) → eqb (c % 2) 1 ≡ b → r ≡ c
      by true g true k = omega (arith, eqb-true (r % 2) 1 g, eqb-true (c % 2) 1 k)
      by true g false k = absurd (false≢true (sym k ∙ sym f ∙ g))
      by false g true k = absurd (false≢true (sym g ∙ f ∙ k))
      by false g false k = omega (arith, eqb-false (r % 2) 1 g, eqb-false (c % 2) 1 k)

  pub gamma-anti : (r c : ℕ) → r < 2 * n → c < 2 * n → r ≢ c → Pass 𝓐 true (gamma 𝓠 r) (gamma 𝓠 c)
  gamma-anti r c h l d = by (order (r / 2) (c / 2))
    where
      by : Order (r / 2) (c / 2) → Pass 𝓐 true (gamma 𝓠 r) (gamma 𝓠 c)
      by (less g) = major-less (r / 2) (c / 2) (eqb (r % 2) 1) (eqb (c % 2) 1) g (omega arith)
      by (same g) =
          subst (λ m. Pass 𝓐 true (gamma 𝓠 r) (major 𝓠 m (eqb (c % 2) 1))) g
          (major-same (r / 2) (eqb (r % 2) 1) (eqb (c % 2) 1) (λ f. d (halves-same r c g f)) (omega arith))
      by (more g) =
          pass-back 𝓛 true (gamma 𝓠 c) (gamma 𝓠 r) (major-less (c / 2) (r / 2) (eqb (c % 2) 1) (eqb (r % 2) 1) g (omega arith))

  pub gamma-first : (k : ℕ) → gamma 𝓠 (2 * k) ≡ major 𝓠 k false
  gamma-first k = λ i. major 𝓠 (half i) (ne_eqb (2 * k % 2) 1 (omega arith) i)
    where
      half : 2 * k / 2 ≡ k
      half = omega arith

  pub gamma-second : (k : ℕ) → gamma 𝓠 (2 * k + 1) ≡ major 𝓠 k true
  gamma-second k = λ i. major 𝓠 (half i) (eq-eqb ((2 * k + 1) % 2) 1 (omega arith) i)
    where
      half : (2 * k + 1) / 2 ≡ k
      half = omega arith

  -- Z of mode k
  pub z-is : (k : ℕ) → k < n → 𝓠.num (𝓝.neg 𝓔.i) ⋆ (gamma 𝓠 (2 * k) ⋆ gamma 𝓠 (2 * k + 1)) ≡ 𝓠.pauli z k
  z-is k h =
      (λ j. 𝓠.num (𝓝.neg 𝓔.i) ⋆ (gamma-first k j ⋆ gamma-second k j))
      ∙ ap (λ a. 𝓠.num (𝓝.neg 𝓔.i) ⋆ a)
      (exchanged 𝓛 (zs 𝓠 k) (𝓠.pauli x k) (zs 𝓠 k) (𝓠.pauli y k) (zs-early x k k h (omega arith))
      ∙ (λ j. zs-square k (omega arith) j ⋆ 𝓠.xy k h j)
      ∙ 𝓛.one-mul (𝓠.num 𝓔.i ⋆ 𝓠.pauli z k))
      ∙ sym (𝓛.mul-assoc (𝓠.num (𝓝.neg 𝓔.i)) (𝓠.num 𝓔.i) (𝓠.pauli z k))
      ∙ ap (λ a. a ⋆ 𝓠.pauli z k) ((λ j. num-neg 𝓔.i j ⋆ 𝓠.num 𝓔.i) ∙ neg-mul 𝓛 (𝓠.num 𝓔.i) (𝓠.num 𝓔.i) ∙ ap neg i-i ∙ neg-neg 𝓛 𝟙)
      ∙ 𝓛.one-mul (𝓠.pauli z k)
