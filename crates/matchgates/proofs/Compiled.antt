-- THE THEOREM FOR CIRCUITS: renaming, gates that change places, fusing, and the order of the modes, one after the other. Assumes nothing.
use mathlib.Core.Path.{◌≡◌, refl, sym, ap, ◌∙◌}
use mathlib.Core.Bool.{Bool}
use mathlib.Core.List.{List, [], ◌∷◌, map}
use Prim.Native.Nat.{ℕ, zero, suc, ◌+◌, ◌*◌, ◌<◌}
use Rattle.laws.specs.Lists.{All}
use Rattle.rings.specs.Rings.{Ops}
use Rattle.formulas.specs.Numbers.{Exact, Tests, Divides}
use Rattle.formulas.specs.Engine.{Mat, Local, Item, applied, interaction}
use Rattle.formulas.specs.Determinants.{odd, own_odd}
use Rattle.angles.specs.Qubits.{x, y, z, Operators}
use Rattle.laws.proofs.Lists.{all_append}
use Rattle.matchgates.specs.Maps.{Conjugate, adjoint}
use Rattle.matchgates.specs.Gates.{ket_bra, spread, on_one, placed, EveryGate}
use Rattle.matchgates.specs.Circuits.{Act, one, two, Fits, operator, forth, reverse, back, conjugated}
use Rattle.matchgates.specs.Fused.{acts_from, Fusion, fusions_acts}
use Rattle.matchgates.specs.Renamed.{Step, meant, slot, labels, renamed, Observable, pauli, number, sum, times, Within, sent, seen, start}
use Rattle.matchgates.specs.Compiled.{Ordered, moved, Compiled, EveryCircuit, CircuitTheorem}
use Rattle.matchgates.proofs.Gates.{every-gate, every-gate-by-elimination}
use Rattle.matchgates.proofs.Fused.{fusions-through, of-gates}
use Rattle.matchgates.proofs.Renamed.{swaps-may-be-renamings}
use Rattle.matchgates.proofs.Regrouped.{fits-alike, alike-right}
use Rattle.matchgates.proofs.Fitting.{start-table, renamed-fits, labels-below, meant-fits, gathered-fit}

module _ {𝓝 : Ops} {below : 𝓝.N → Bool} (𝓔 : Exact 𝓝 below) (𝓙 : Conjugate 𝓝 𝓔.i) {n : ℕ} {𝓐 : Ops} (𝓠 𝓦 : Operators 𝓝 𝓔.i n 𝓐) where
  open 𝓐 use {N, one as 𝟙, add as ◌⊹◌, mul as ◌⋆◌, neg}

  infixl 65 ◌⊹◌
  infixl 70 ◌⋆◌
  fusions-fit : (bs : List (Item (Fusion 𝓔 𝓙 n))) → All (Fits n) (fusions_acts bs)
  fusions-fit [] = tt
  fusions-fit (interaction ∷ bs) = fusions-fit bs
  fusions-fit (applied b ∷ bs) =
      all_append (Fits n) (acts_from b.start b.gates) (fusions_acts bs) (gathered-fit 𝓝 n b.start b.gates b.fits) (fusions-fit bs)

  -- ---- gates on modes are gates on slots

  module _ (l : ℕ → ℕ) (o : Ordered 𝓠 𝓦 l) where
    unit-place : (k : ℕ) → k < n → (r c : ℕ) → ket_bra 𝓔 𝓦 k r c ≡ ket_bra 𝓔 𝓠 (l k) r c
    unit-place k h zero zero = λ i. o.number 𝓔.half i ⋆ (𝟙 ⊹ o.place z k h i)
    unit-place k h zero (suc c) = λ i. o.number 𝓔.half i ⋆ (o.place x k h i ⊹ o.number 𝓔.i i ⋆ o.place y k h i)
    unit-place k h (suc r) zero = λ i. o.number 𝓔.half i ⋆ (o.place x k h i ⊹ neg (o.number 𝓔.i i ⋆ o.place y k h i))
    unit-place k h (suc r) (suc c) = λ i. o.number 𝓔.half i ⋆ (𝟙 ⊹ neg (o.place z k h i))

    spread-place : (k : ℕ) → k < n → (f g : ℕ → ℕ → N) → ((r c : ℕ) → f r c ≡ g r c) → spread 𝓔 𝓦 k f ≡ spread 𝓔 𝓠 (l k) g
    spread-place k h f g e =
        λ i. e 0 0 i ⋆ unit-place k h 0 0 i ⊹ e 0 1 i ⋆ unit-place k h 0 1 i ⊹ (e 1 0 i ⋆ unit-place k h 1 0 i ⊹ e 1 1 i ⋆ unit-place k h 1 1 i)

    on-place : (k : ℕ) → k < n → (u : Mat 𝓝) → on_one 𝓔 𝓦 k u ≡ on_one 𝓔 𝓠 (l k) u
    on-place k h u = spread-place k h (λ r c. 𝓦.num (u r c)) (λ r c. 𝓠.num (u r c)) (λ r c. o.number (u r c))

    placed-place : (j k : ℕ) → j < n → k < n → (u : Mat 𝓝) → placed 𝓔 𝓦 j k u ≡ placed 𝓔 𝓠 (l j) (l k) u
    placed-place j k hj hk u =
        spread-place j hj (λ r c. on_one 𝓔 𝓦 k (corner r c)) (λ r c. on_one 𝓔 𝓠 (l k) (corner r c)) (λ r c. on-place k hk (corner r c))
      where
        corner : ℕ → ℕ → Mat 𝓝
        corner r c = λ s t. u (2 * r + s) (2 * c + t)

    operator-place : (g : Act 𝓝) → Fits n g → operator 𝓔 𝓦 g ≡ operator 𝓔 𝓠 (moved l g)
    operator-place (one k u) h = on-place k h u
    operator-place (two j k u) h = placed-place j k h.0 h.1 u

    reverse-place : (g : Act 𝓝) → Fits n g → reverse 𝓔 𝓙 𝓦 g ≡ reverse 𝓔 𝓙 𝓠 (moved l g)
    reverse-place (one k u) h = on-place k h (adjoint 𝓙 u)
    reverse-place (two j k u) h = placed-place j k h.0 h.1 (adjoint 𝓙 u)

    forth-place : (gs : List (Act 𝓝)) → All (Fits n) gs → forth 𝓔 𝓦 gs ≡ forth 𝓔 𝓠 (map (moved l) gs)
    unfolding forth
    forth-place [] f = refl
    forth-place (g ∷ gs) f = λ i. forth-place gs f.1 i ⋆ operator-place g f.0 i

    back-place : (gs : List (Act 𝓝)) → All (Fits n) gs → back 𝓔 𝓙 𝓦 gs ≡ back 𝓔 𝓙 𝓠 (map (moved l) gs)
    unfolding back
    back-place [] f = refl
    back-place (g ∷ gs) f = λ i. reverse-place g f.0 i ⋆ back-place gs f.1 i

    -- an observable of modes is one of wires
    seen-place : (m s : ℕ → ℕ) → ((q : ℕ) → q < n → (m q < n) × (l (m q) ≡ s q)) → (t : Observable 𝓝) → Within n t
        → seen 𝓦 (sent m t) ≡ seen 𝓠 (sent s t)
    seen-place m s e (pauli a q) h = o.place a (m q) (e q h).0 ∙ ap (𝓠.pauli a) (e q h).1
    seen-place m s e (number c) h = o.number c
    seen-place m s e (sum t v) h = λ i. seen-place m s e t h.0 i ⊹ seen-place m s e v h.1 i
    seen-place m s e (times t v) h = λ i. seen-place m s e t h.0 i ⋆ seen-place m s e v h.1 i

  -- ---- qubits sent to slots, and these to wires

  sent-within : (s : ℕ → ℕ) → ((q : ℕ) → q < n → s q < n) → (t : Observable 𝓝) → Within n t → Within n (sent s t)
  sent-within s e (pauli a q) h = e q h
  sent-within s e (number c) h = tt
  sent-within s e (sum t v) h = (sent-within s e t h.0, sent-within s e v h.1)
  sent-within s e (times t v) h = (sent-within s e t h.0, sent-within s e v h.1)

  sent-twice : (r s : ℕ → ℕ) (t : Observable 𝓝) → sent r (sent s t) ≡ sent (λ q. r (s q)) t
  sent-twice r s (pauli a q) = refl
  sent-twice r s (number c) = refl
  sent-twice r s (sum t v) = λ i. sum (sent-twice r s t i) (sent-twice r s v i)
  sent-twice r s (times t v) = λ i. times (sent-twice r s t i) (sent-twice r s v i)

  -- ---- the circuit

  module _ (gs hs : List (Step 𝓝)) (bs : List (Item (Fusion 𝓔 𝓙 n))) (l m : ℕ → ℕ) (c : Compiled 𝓔 𝓙 𝓠 𝓦 gs hs bs l m) where
    -- the gates on slots, on wires, on modes
    abbrev first : List (Act 𝓝)
    first = renamed (start n) gs

    abbrev second : List (Act 𝓝)
    second = renamed (start n) hs

    abbrev third : List (Act 𝓝)
    third = fusions_acts bs

    abbrev slot₁ : ℕ → ℕ
    slot₁ = slot (labels (start n) gs)

    abbrev slot₂ : ℕ → ℕ
    slot₂ = slot (labels (start n) hs)

    fits₁ : All (Fits n) first
    fits₁ = renamed-fits 𝓝 n gs c.fits (start n) (start-table n)

    fits₂ : All (λ g. Fits n (meant g)) hs
    fits₂ = meant-fits 𝓝 n hs (fits-alike 𝓔 𝓙 𝓠 fits₁ c.fusing)

    observed : (t : Observable 𝓝) → Within n t
        → 𝓦.vac (conjugated 𝓔 𝓙 𝓦 third (seen 𝓦 (sent m t))) ≡ 𝓠.vac (conjugated 𝓔 𝓙 𝓠 (map meant gs) (seen 𝓠 t))
    observed t h =
        c.ordered.vacuum (conjugated 𝓔 𝓙 𝓦 third (seen 𝓦 (sent m t)))
        ∙ ap 𝓠.vac
        ((λ i. back-place l c.ordered third fit i ⋆ (seen-place l c.ordered m (λ q. slot₂ (slot₁ q)) c.mode t h i ⋆ forth-place l c.ordered third fit i))
        ∙ ap (λ v. conjugated 𝓔 𝓙 𝓠 (map (moved l) third) (seen 𝓠 v)) (sym (sent-twice slot₂ slot₁ t))
        ∙ sym (alike-right 𝓔 𝓙 𝓠 second (map (moved l) third) (renamed-fits 𝓝 n hs fits₂ (start n) (start-table n)) c.placing
        (seen 𝓠 (sent slot₂ (sent slot₁ t))))
        ∙ sym (swaps-may-be-renamings 𝓔 𝓙 𝓠 hs fits₂ (sent slot₁ t) (sent-within slot₁ (labels-below 𝓝 n gs c.fits (start n) (start-table n)) t h))
        ∙ sym (alike-right 𝓔 𝓙 𝓠 first (map meant hs) fits₁ c.fusing (seen 𝓠 (sent slot₁ t)))
        ∙ sym (swaps-may-be-renamings 𝓔 𝓙 𝓠 gs c.fits t h))
      where
        fit : All (Fits n) third
        fit = fusions-fit bs

  of-circuits : (asked : Local 𝓝 → Bool) → EveryGate 𝓔 𝓙 𝓦 asked → EveryCircuit 𝓔 𝓙 𝓠 𝓦 asked
  of-circuits asked every gs hs bs l m c = record {
    observable = λ t h. ap 𝓦.vac (fusions-through 𝓔 𝓙 𝓦 bs (seen 𝓦 (sent m t))) ∙ observed gs hs bs l m c t h;
    parity = λ q h. (of-gates 𝓔 𝓙 𝓦 asked every bs).parity (m q) (c.mode q h).0 ∙ observed gs hs bs l m c (pauli z q) h;
  }

  -- CIRCUITS
  pub every-circuit : EveryCircuit 𝓔 𝓙 𝓠 𝓦 (odd 𝓝 below)
  every-circuit = of-circuits (odd 𝓝 below) (every-gate 𝓔 𝓙 𝓦)

  pub every-circuit-by-elimination : {𝓣 : Tests 𝓝} → Divides 𝓝 𝓣 → EveryCircuit 𝓔 𝓙 𝓠 𝓦 (own_odd 𝓝 𝓣 below)
  every-circuit-by-elimination {𝓣} 𝓥 = of-circuits (own_odd 𝓝 𝓣 below) (every-gate-by-elimination 𝓔 𝓙 𝓦 𝓥)

pub circuit-theorem : CircuitTheorem
circuit-theorem 𝓝 𝓣 𝓥 below 𝓔 𝓙 n 𝓐 𝓠 𝓦 = every-circuit-by-elimination 𝓔 𝓙 𝓠 𝓦 𝓥
