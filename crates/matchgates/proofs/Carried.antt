-- An operator W with its inverse that takes every qubit to a slot, W P_q W^-1 = P_(slot q), takes gates on qubits to gates on slots, and observables too.
-- Assumes nothing.
use mathlib.Core.Path.{◌≡◌, refl, sym, ap, ◌∙◌}
use mathlib.Core.Bool.{Bool, xor}
use mathlib.Core.List.{List, [], ◌∷◌}
use Prim.Native.Nat.{ℕ, zero, suc, ◌+◌, ◌*◌, ◌<◌}
use Rattle.rings.specs.Rings.{Ops, IsRing}
use Rattle.formulas.specs.Numbers.{Exact}
use Rattle.formulas.specs.Engine.{Mat}
use Rattle.angles.specs.Qubits.{Axis, x, y, z, Operators}
use Rattle.matchgates.specs.Maps.{Conjugate, adjoint}
use Rattle.matchgates.specs.Gates.{ket_bra, spread, on_one, placed}
use Rattle.matchgates.specs.Circuits.{Act, one, two, Fits, operator, reverse}
use Rattle.matchgates.specs.Renamed.{slotted, slot, Observable, pauli, number, sum, times, Within, sent, seen}
use Rattle.rings.proofs.Rings.{mul-neg, neg-mul}
use Rattle.rings.proofs.Solve.{var, plus, by-free}
use Rattle.rings.proofs.Solve as Solve

module _ {𝓝 : Ops} {below : 𝓝.N → Bool} (𝓔 : Exact 𝓝 below) {n : ℕ} {𝓐 : Ops} (𝓠 : Operators 𝓝 𝓔.i n 𝓐) where
  open 𝓐 use {N, one as 𝟙, add as ◌⊹◌, mul as ◌⋆◌, neg}

  infixl 65 ◌⊹◌
  infixl 70 ◌⋆◌
  abbrev 𝓛 : IsRing 𝓐
  𝓛 = 𝓠.ring

  pub record Carries (lab : List ℕ) (w v : N) : Type 0 where
    pub wv : w ⋆ v ≡ 𝟙
    pub vw : v ⋆ w ≡ 𝟙
    pub paulis : (a : Axis) (q : ℕ) → q < n → w ⋆ (𝓠.pauli a q ⋆ v) ≡ 𝓠.pauli a (slot lab q)

  module _ (lab : List ℕ) (w v : N) (carries : Carries lab w v) where
    abbrev ψ : N → N
    ψ a = w ⋆ (a ⋆ v)

    carried-add : (a b : N) → ψ (a ⊹ b) ≡ ψ a ⊹ ψ b
    carried-add a b = ap (λ c. w ⋆ c) (𝓛.right a b v) ∙ 𝓛.left w (a ⋆ v) (b ⋆ v)

    pub carried-mul : (a b : N) → ψ (a ⋆ b) ≡ ψ a ⋆ ψ b
    unfolding xor
    carried-mul a b =
        by-free 𝓛 (w ∷ a ∷ b ∷ v ∷ []) (Solve.times (var 0) (Solve.times (Solve.times (var 1) (var 2)) (var 3)))
        (Solve.times (Solve.times (var 0) (var 1)) (Solve.times (var 2) (var 3))) refl
        ∙ ap (λ c. w ⋆ a ⋆ c) (sym (𝓛.one-mul (b ⋆ v)) ∙ ap (λ c. c ⋆ (b ⋆ v)) (sym carries.vw))
        ∙ by-free 𝓛 (w ∷ a ∷ b ∷ v ∷ [])
        (Solve.times (Solve.times (var 0) (var 1)) (Solve.times (Solve.times (var 3) (var 0)) (Solve.times (var 2) (var 3))))
        (Solve.times (Solve.times (var 0) (Solve.times (var 1) (var 3))) (Solve.times (var 0) (Solve.times (var 2) (var 3)))) refl

    carried-neg : (a : N) → ψ (neg a) ≡ neg (ψ a)
    carried-neg a = ap (λ c. w ⋆ c) (neg-mul 𝓛 a v) ∙ mul-neg 𝓛 w (a ⋆ v)

    carried-num : (s : 𝓝.N) → ψ (𝓠.num s) ≡ 𝓠.num s
    carried-num s =
        ap (λ c. w ⋆ c) (𝓠.central s v) ∙ sym (𝓛.mul-assoc w v (𝓠.num s)) ∙ ap (λ c. c ⋆ 𝓠.num s) carries.wv ∙ 𝓛.one-mul (𝓠.num s)

    carried-one : ψ 𝟙 ≡ 𝟙
    carried-one = ap (λ c. w ⋆ c) (𝓛.one-mul v) ∙ carries.wv

    -- a number in front
    carried-scaled : (s : 𝓝.N) (a b : N) → ψ a ≡ b → ψ (𝓠.num s ⋆ a) ≡ 𝓠.num s ⋆ b
    carried-scaled s a b e = carried-mul (𝓠.num s) a ∙ (λ i. carried-num s i ⋆ e i)

    -- ---- operators with given matrices

    module _ (q : ℕ) (h : q < n) where
      carried-unit : (r c : ℕ) → ψ (ket_bra 𝓔 𝓠 q r c) ≡ ket_bra 𝓔 𝓠 (slot lab q) r c
      carried-unit zero zero =
          carried-scaled 𝓔.half (𝟙 ⊹ 𝓠.pauli z q) (𝟙 ⊹ 𝓠.pauli z (slot lab q))
          (carried-add 𝟙 (𝓠.pauli z q) ∙ (λ i. carried-one i ⊹ carries.paulis z q h i))
      carried-unit zero (suc c) =
          carried-scaled 𝓔.half (𝓠.pauli x q ⊹ 𝓠.num 𝓔.i ⋆ 𝓠.pauli y q) (𝓠.pauli x (slot lab q) ⊹ 𝓠.num 𝓔.i ⋆ 𝓠.pauli y (slot lab q))
          (carried-add (𝓠.pauli x q) (𝓠.num 𝓔.i ⋆ 𝓠.pauli y q)
          ∙ (λ i. carries.paulis x q h i ⊹ carried-scaled 𝓔.i (𝓠.pauli y q) (𝓠.pauli y (slot lab q)) (carries.paulis y q h) i))
      carried-unit (suc r) zero =
          carried-scaled 𝓔.half (𝓠.pauli x q ⊹ neg (𝓠.num 𝓔.i ⋆ 𝓠.pauli y q)) (𝓠.pauli x (slot lab q) ⊹ neg (𝓠.num 𝓔.i ⋆ 𝓠.pauli y (slot lab q)))
          (carried-add (𝓠.pauli x q) (neg (𝓠.num 𝓔.i ⋆ 𝓠.pauli y q))
          ∙ (λ i. carries.paulis x q h i ⊹ (carried-neg (𝓠.num 𝓔.i ⋆ 𝓠.pauli y q)
          ∙ ap neg (carried-scaled 𝓔.i (𝓠.pauli y q) (𝓠.pauli y (slot lab q)) (carries.paulis y q h))) i))
      carried-unit (suc r) (suc c) =
          carried-scaled 𝓔.half (𝟙 ⊹ neg (𝓠.pauli z q)) (𝟙 ⊹ neg (𝓠.pauli z (slot lab q)))
          (carried-add 𝟙 (neg (𝓠.pauli z q)) ∙ (λ i. carried-one i ⊹ (carried-neg (𝓠.pauli z q) ∙ ap neg (carries.paulis z q h)) i))

      carried-term : (f : ℕ → ℕ → N) (r c : ℕ) → ψ (f r c ⋆ ket_bra 𝓔 𝓠 q r c) ≡ ψ (f r c) ⋆ ket_bra 𝓔 𝓠 (slot lab q) r c
      carried-term f r c = carried-mul (f r c) (ket_bra 𝓔 𝓠 q r c) ∙ ap (λ a. ψ (f r c) ⋆ a) (carried-unit r c)

      carried-spread : (f : ℕ → ℕ → N) → ψ (spread 𝓔 𝓠 q f) ≡ spread 𝓔 𝓠 (slot lab q) (λ r c. ψ (f r c))
      carried-spread f =
          carried-add (t 0 0 ⊹ t 0 1) (t 1 0 ⊹ t 1 1)
          ∙ (λ i. carried-add (t 0 0) (t 0 1) i ⊹ carried-add (t 1 0) (t 1 1) i)
          ∙ (λ i. carried-term f 0 0 i ⊹ carried-term f 0 1 i ⊹ (carried-term f 1 0 i ⊹ carried-term f 1 1 i))
        where
          t : ℕ → ℕ → N
          t r c = f r c ⋆ ket_bra 𝓔 𝓠 q r c

      carried-on : (u : Mat 𝓝) → ψ (on_one 𝓔 𝓠 q u) ≡ on_one 𝓔 𝓠 (slot lab q) u
      carried-on u = carried-spread (λ r c. 𝓠.num (u r c)) ∙ (λ i. spread 𝓔 𝓠 (slot lab q) (λ r c. carried-num (u r c) i))

    pub carried-placed : (p q : ℕ) → p < n → q < n → (u : Mat 𝓝) → ψ (placed 𝓔 𝓠 p q u) ≡ placed 𝓔 𝓠 (slot lab p) (slot lab q) u
    carried-placed p q hp hq u =
        carried-spread p hp (λ r c. on_one 𝓔 𝓠 q (corner r c)) ∙ (λ i. spread 𝓔 𝓠 (slot lab p) (λ r c. carried-on q hq (corner r c) i))
      where
        corner : ℕ → ℕ → Mat 𝓝
        corner r c = λ s t. u (2 * r + s) (2 * c + t)

    pub carried-act : (g : Act 𝓝) → Fits n g → ψ (operator 𝓔 𝓠 g) ≡ operator 𝓔 𝓠 (slotted lab g)
    carried-act (one q u) h = carried-on q h u
    carried-act (two p q u) h = carried-placed p q h.0 h.1 u

    pub carried-reverse : (𝓙 : Conjugate 𝓝 𝓔.i) (g : Act 𝓝) → Fits n g → ψ (reverse 𝓔 𝓙 𝓠 g) ≡ reverse 𝓔 𝓙 𝓠 (slotted lab g)
    carried-reverse 𝓙 (one q u) h = carried-on q h (adjoint 𝓙 u)
    carried-reverse 𝓙 (two p q u) h = carried-placed p q h.0 h.1 (adjoint 𝓙 u)

    -- ---- observables

    pub carried-seen : (t : Observable 𝓝) → Within n t → ψ (seen 𝓠 t) ≡ seen 𝓠 (sent (slot lab) t)
    carried-seen (pauli a q) h = carries.paulis a q h
    carried-seen (number s) h = carried-num s
    carried-seen (sum s t) h = carried-add (seen 𝓠 s) (seen 𝓠 t) ∙ (λ i. carried-seen s h.0 i ⊹ carried-seen t h.1 i)
    carried-seen (times s t) h = carried-mul (seen 𝓠 s) (seen 𝓠 t) ∙ (λ i. carried-seen s h.0 i ⋆ carried-seen t h.1 i)
