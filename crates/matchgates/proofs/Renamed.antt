-- SWAPS MAY BE RENAMINGS: by induction on the circuit, for every operator that takes the qubits to their slots; a swap is one more factor of it.
-- Assumes nothing.
use mathlib.Core.Path.{◌≡◌, refl, sym, ap, ◌∙◌}
use mathlib.Core.Logic.{◌≢◌}
use mathlib.Core.Bool.{Bool, xor}
use mathlib.Core.List.{List, [], ◌∷◌, map}
use Prim.Native.Nat.{ℕ, ◌<◌}
use native.Mathlib.Omega.{arith}
use lib.ListN.{length}
use Rattle.laws.specs.Lists.{All}
use Rattle.laws.specs.Slices.{traded}
use Rattle.laws.specs.Tables.{exchanged}
use Rattle.laws.proofs.Tables.{exchanged-below, length-traded, get_or-traded}
use Rattle.laws.proofs.Views.{length-list_of, get_or-list_of}
use Rattle.rings.specs.Rings.{Ops, IsRing}
use Rattle.formulas.specs.Numbers.{Exact}
use Rattle.formulas.specs.Engine.{Mat}
use Rattle.angles.specs.Qubits.{Operators}
use Rattle.matchgates.specs.Matrices.{product}
use Rattle.matchgates.specs.Maps.{Conjugate, adjoint}
use Rattle.matchgates.specs.Gates.{placed}
use Rattle.matchgates.specs.Circuits.{two, Fits, operator, reverse, conjugated}
use Rattle.matchgates.specs.Fused.{swap}
use Rattle.matchgates.specs.Renamed.{Step, gate, renaming, swapped, meant, slot, slotted, labels, renamed, Observable, Within, sent, seen, start, Renaming}
use Rattle.rings.proofs.Solve.{var, times, by-free}
use Rattle.matchgates.proofs.Placed.{placed-same, placed-times}
use Rattle.matchgates.proofs.MatrixLaws.{adjoint-product, adjoint-swap}
use Rattle.matchgates.proofs.Circuits.{conjugated-none, conjugated-step}
use Rattle.matchgates.proofs.Swap.{twice-one, exchanges-paulis}
use Rattle.matchgates.proofs.Carried.{Carries, carried-mul, carried-placed, carried-act, carried-reverse, carried-seen}

module _ {𝓝 : Ops} {below : 𝓝.N → Bool} (𝓔 : Exact 𝓝 below) (𝓙 : Conjugate 𝓝 𝓔.i) {n : ℕ} {𝓐 : Ops} (𝓠 : Operators 𝓝 𝓔.i n 𝓐) where
  open 𝓐 use {N, one as 𝟙, mul as ◌⋆◌}

  infixl 70 ◌⋆◌
  abbrev 𝓛 : IsRing 𝓐
  𝓛 = 𝓠.ring

  -- ---- SWAP on two qubits

  module _ (p q : ℕ) (hp : p < n) (hq : q < n) (other : p ≢ q) where
    abbrev σ : N
    σ = placed 𝓔 𝓠 p q (swap 𝓝)

    -- σ σ a = a = a σ σ
    twice-before : (a : N) → σ ⋆ (σ ⋆ a) ≡ a
    twice-before a = sym (𝓛.mul-assoc σ σ a) ∙ ap (λ b. b ⋆ a) (twice-one 𝓔 𝓠 p q hp hq other) ∙ 𝓛.one-mul a

    twice-after : (a : N) → a ⋆ σ ⋆ σ ≡ a
    twice-after a = 𝓛.mul-assoc a σ σ ∙ ap (λ b. a ⋆ b) (twice-one 𝓔 𝓠 p q hp hq other) ∙ 𝓛.mul-one a

    regroup : (w a v : N) → w ⋆ σ ⋆ (a ⋆ (σ ⋆ v)) ≡ w ⋆ (σ ⋆ (a ⋆ σ) ⋆ v)
    unfolding xor
    regroup w a v = by-free 𝓛 (w ∷ a ∷ v ∷ σ ∷ []) (times (times (var 0) (var 3)) (times (var 1) (times (var 3) (var 2))))
        (times (var 0) (times (times (var 3) (times (var 1) (var 3))) (var 2))) refl

    -- one more factor
    carries-more : (lab : List ℕ) → length lab ≡ n → (w v : N) → Carries 𝓔 𝓠 lab w v → Carries 𝓔 𝓠 (traded 0 p q lab) (w ⋆ σ) (σ ⋆ v)
    carries-more lab e w v c = record {
      wv = sym (𝓛.mul-assoc (w ⋆ σ) σ v) ∙ ap (λ a. a ⋆ v) (twice-after w) ∙ c.wv;
      vw = 𝓛.mul-assoc σ v (w ⋆ σ)
          ∙ ap (λ a. σ ⋆ a) (sym (𝓛.mul-assoc v w σ) ∙ ap (λ a. a ⋆ σ) c.vw ∙ 𝓛.one-mul σ) ∙ twice-one 𝓔 𝓠 p q hp hq other;
      paulis = λ a k h.
          regroup w (𝓠.pauli a k) v
          ∙ ap (λ b. w ⋆ (b ⋆ v)) (exchanges-paulis 𝓔 𝓠 p q hp hq other a k h)
          ∙ c.paulis a (exchanged p q k) (exchanged-below p q n k hp hq h)
          ∙ ap (𝓠.pauli a) (sym (get_or-traded 0 p q lab (omega (arith, e)) (omega (arith, e)) k));
    }

    -- SWAP u and its adjoint
    before-swap : (u : Mat 𝓝) → placed 𝓔 𝓠 p q (product 𝓝 4 (swap 𝓝) u) ≡ σ ⋆ placed 𝓔 𝓠 p q u
    before-swap u = placed-times 𝓔 𝓠 p q hp hq other (swap 𝓝) u

    swap-back : placed 𝓔 𝓠 p q (adjoint 𝓙 (swap 𝓝)) ≡ σ
    swap-back = placed-same 𝓔 𝓠 p q hp hq other (adjoint 𝓙 (swap 𝓝)) (swap 𝓝) (adjoint-swap 𝓔 𝓙)

    back-before : (u : Mat 𝓝) → placed 𝓔 𝓠 p q (adjoint 𝓙 (product 𝓝 4 (swap 𝓝) u)) ≡ placed 𝓔 𝓠 p q (adjoint 𝓙 u) ⋆ σ
    back-before u =
        placed-same 𝓔 𝓠 p q hp hq other (adjoint 𝓙 (product 𝓝 4 (swap 𝓝) u)) (product 𝓝 4 (adjoint 𝓙 u) (adjoint 𝓙 (swap 𝓝)))
        (λ r c hr hc. adjoint-product 𝓔 𝓙 4 (swap 𝓝) u r c)
        ∙ placed-times 𝓔 𝓠 p q hp hq other (adjoint 𝓙 u) (adjoint 𝓙 (swap 𝓝))
        ∙ ap (λ a. placed 𝓔 𝓠 p q (adjoint 𝓙 u) ⋆ a) swap-back

  -- ---- the circuit

  module _ (t : Observable 𝓝) (within : Within n t) where
    -- the two sides, after a list
    abbrev by_qubits : List (Step 𝓝) → N
    by_qubits gs = conjugated 𝓔 𝓙 𝓠 (map meant gs) (seen 𝓠 t)

    abbrev by_slots : List ℕ → List (Step 𝓝) → N
    by_slots lab gs = conjugated 𝓔 𝓙 𝓠 (renamed lab gs) (seen 𝓠 (sent (slot (labels lab gs)) t))

    Agrees : List (Step 𝓝) → Type 0
    Agrees gs = (lab : List ℕ) → length lab ≡ n → (w v : N) → Carries 𝓔 𝓠 lab w v → by_slots lab gs ≡ w ⋆ (by_qubits gs ⋆ v)

    -- a list after a SWAP of p and q
    after-swap : (p q : ℕ) → p < n → q < n → p ≢ q → (gs : List (Step 𝓝)) → Agrees gs
        → (lab : List ℕ) → length lab ≡ n → (w v : N) → Carries 𝓔 𝓠 lab w v
        → by_slots (traded 0 p q lab) gs ≡ w ⋆ (placed 𝓔 𝓠 p q (swap 𝓝) ⋆ (by_qubits gs ⋆ placed 𝓔 𝓠 p q (swap 𝓝)) ⋆ v)
    unfolding Agrees
    after-swap p q hp hq other gs ih lab e w v c =
        ih (traded 0 p q lab) (length-traded 0 p q lab ∙ e) (w ⋆ s) (s ⋆ v) (carries-more p q hp hq other lab e w v c)
        ∙ regroup p q hp hq other w (by_qubits gs) v
      where
        s : N
        s = placed 𝓔 𝓠 p q (swap 𝓝)

    agrees : (gs : List (Step 𝓝)) → All (λ g. Fits n (meant g)) gs → Agrees gs
    unfolding Agrees renamed labels xor
    agrees [] fits lab e w v c =
        conjugated-none 𝓔 𝓙 𝓠 (seen 𝓠 (sent (slot lab) t))
        ∙ sym (carried-seen 𝓔 𝓠 lab w v c t within)
        ∙ ap (λ a. w ⋆ (a ⋆ v)) (sym (conjugated-none 𝓔 𝓙 𝓠 (seen 𝓠 t)))
    agrees (gate g ∷ gs) fits lab e w v c =
        conjugated-step 𝓔 𝓙 𝓠 (slotted lab g) (renamed lab gs) (seen 𝓠 (sent (slot (labels lab gs)) t))
        ∙ (λ i. sym (carried-reverse 𝓔 𝓠 lab w v c 𝓙 g fits.0) i ⋆ (agrees gs fits.1 lab e w v c i ⋆ sym (carried-act 𝓔 𝓠 lab w v c g fits.0) i))
        ∙ ap (λ a. w ⋆ (reverse 𝓔 𝓙 𝓠 g ⋆ v) ⋆ a) (sym (carried-mul 𝓔 𝓠 lab w v c (by_qubits gs) (operator 𝓔 𝓠 g)))
        ∙ sym (carried-mul 𝓔 𝓠 lab w v c (reverse 𝓔 𝓙 𝓠 g) (by_qubits gs ⋆ operator 𝓔 𝓠 g))
        ∙ ap (λ a. w ⋆ (a ⋆ v)) (sym (conjugated-step 𝓔 𝓙 𝓠 g (map meant gs) (seen 𝓠 t)))
    agrees (renaming p q ∷ gs) fits lab e w v c =
        after-swap p q fits.0.0 fits.0.1 fits.0.2 gs (agrees gs fits.1) lab e w v c
        ∙ ap (λ a. w ⋆ (a ⋆ (by_qubits gs ⋆ placed 𝓔 𝓠 p q (swap 𝓝)) ⋆ v)) (sym (swap-back p q fits.0.0 fits.0.1 fits.0.2))
        ∙ ap (λ a. w ⋆ (a ⋆ v)) (sym (conjugated-step 𝓔 𝓙 𝓠 (two p q (swap 𝓝)) (map meant gs) (seen 𝓠 t)))
    agrees (swapped p q u ∷ gs) fits lab e w v c =
        conjugated-step 𝓔 𝓙 𝓠 (two (slot lab p) (slot lab q) (product 𝓝 4 (swap 𝓝) u)) (renamed (traded 0 p q lab) gs)
        (seen 𝓠 (sent (slot (labels (traded 0 p q lab) gs)) t))
        ∙ (λ i. sym (carried-placed 𝓔 𝓠 lab w v c p q hp hq (adjoint 𝓙 (product 𝓝 4 (swap 𝓝) u))) i
        ⋆ (after-swap p q hp hq fits.0.2 gs (agrees gs fits.1) lab e w v c i
        ⋆ sym (carried-placed 𝓔 𝓠 lab w v c p q hp hq (product 𝓝 4 (swap 𝓝) u)) i))
        ∙ (λ i. w ⋆ (back-before p q hp hq fits.0.2 u i ⋆ v) ⋆ (w ⋆ (s ⋆ (X ⋆ s) ⋆ v) ⋆ (w ⋆ (before-swap p q hp hq fits.0.2 u i ⋆ v))))
        ∙ ap (λ a. w ⋆ (U' ⋆ s ⋆ v) ⋆ a) (sym (carried-mul 𝓔 𝓠 lab w v c (s ⋆ (X ⋆ s)) (s ⋆ U)))
        ∙ sym (carried-mul 𝓔 𝓠 lab w v c (U' ⋆ s) (s ⋆ (X ⋆ s) ⋆ (s ⋆ U)))
        ∙ ap (λ a. w ⋆ (a ⋆ v))
        (by-free 𝓛 (U' ∷ s ∷ X ∷ U ∷ []) (times (times (var 0) (var 1)) (times (times (var 1) (times (var 2) (var 1))) (times (var 1) (var 3))))
        (times (times (times (var 0) (var 1)) (var 1)) (times (var 2) (times (var 1) (times (var 1) (var 3))))) refl
        ∙ (λ i. twice-after p q hp hq fits.0.2 U' i ⋆ (X ⋆ twice-before p q hp hq fits.0.2 U i))
        ∙ sym (conjugated-step 𝓔 𝓙 𝓠 (two p q u) (map meant gs) (seen 𝓠 t)))
      where
        hp : p < n
        hp = fits.0.0

        hq : q < n
        hq = fits.0.1

        s : N
        s = placed 𝓔 𝓠 p q (swap 𝓝)

        U : N
        U = placed 𝓔 𝓠 p q u

        U' : N
        U' = placed 𝓔 𝓠 p q (adjoint 𝓙 u)

        X : N
        X = by_qubits gs

  -- ---- from the start

  starts : Carries 𝓔 𝓠 (start n) 𝟙 𝟙
  starts = record {
    wv = 𝓛.one-mul 𝟙;
    vw = 𝓛.one-mul 𝟙;
    paulis = λ a q h. 𝓛.one-mul (𝓠.pauli a q ⋆ 𝟙) ∙ 𝓛.mul-one (𝓠.pauli a q) ∙ ap (𝓠.pauli a) (sym (get_or-list_of n (λ q. q) q 0 h));
  }

  -- SWAPS MAY BE RENAMINGS
  pub swaps-may-be-renamings : Renaming 𝓔 𝓙 𝓠
  unfolding Agrees
  swaps-may-be-renamings gs fits t within =
      sym (agrees t within gs fits (start n) (length-list_of n (λ q. q)) 𝟙 𝟙 starts
      ∙ 𝓛.one-mul (by_qubits t within gs ⋆ 𝟙) ∙ 𝓛.mul-one (by_qubits t within gs))
