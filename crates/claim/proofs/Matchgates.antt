-- A matchgate on neighbouring modes, and a gate on one mode: the bits of the modes are turned and exchanged as the block says, whichever of the two
-- modes is the lower. Assumes nothing.
use mathlib.Core.Path.{◌≡◌, refl, sym, ◌∙◌, subst}
use mathlib.Core.Logic.{◌⊎◌, inl, inr, ◌≢◌}
use mathlib.Core.Bool.{Bool, true, false, cond}
use mathlib.Core.List.{[], ◌∷◌}
use Prim.Native.Nat.{ℕ, ◌+◌, ◌-◌, ◌<◌, ◌≤◌}
use native.Mathlib.Omega.{arith}
use lib.Dec.{eqb, ltb}
use borrow.Author.Tests.{ltb-true, ltb-false, eqb-true}
use Rattle.laws.specs.Bounds.{max_qubits}
use Rattle.laws.proofs.Tables.{update_here, update-away, two-first, two-second, two-away}
use Rattle.gate.specs.Matrix.{mat4_swap_qubits_of}
use Rattle.gate.specs.declared.matrix.Mat2.{Mat2}
use Rattle.gate.specs.declared.matrix.Mat4.{Mat4}
use Rattle.majorana.specs.Majorana.{majorana_map1_of, majorana_map2_of}
use Rattle.monomial.specs.Monomial.{Mono2, Mono4, Has2, Has4, IsMatchgate}
use Rattle.monomial.specs.Algebra.{renamed}
use Rattle.monomial.proofs.Algebra.{renamed-has, renamed-fits}
use Rattle.order.specs.Arrangement.{beside_of}
use Rattle.detect.specs.Emit.{oriented_of, lower_of}
use Rattle.detect.specs.Operation.{one, two}
use Rattle.local.specs.State.{State}
use Rattle.basis.specs.Holds.{HoldsBits}
use Rattle.basis.proofs.Steps.{one_holds, two-holds}
use Rattle.evolve.specs.Evolve.{evolved_from}
use Rattle.register.specs.Bits.{turned_of, first_of, second_of, turn1, turn2}
use Rattle.register.proofs.Readings.{turned-is, first-is, second_is}
use Rattle.register.proofs.Changes.{two-renamed}
use Rattle.claim.proofs.Operations.{one-applied, two-applied}

-- ---- neighbours

-- i is the lower of two neighbouring modes, or j is
abbrev Lower : ℕ → ℕ → Type 0
Lower i j = ((ltb i j ≡ true) × (j ≡ i + 1)) ⊎ ((ltb i j ≡ false) × (i ≡ j + 1))

lower : (i j : ℕ) → beside_of i j ≡ true → Lower i j
lower i j = by (ltb i j) refl
  where
    by : (s : Bool) → ltb i j ≡ s → eqb (cond s (j - i) (i - j)) 1 ≡ true → Lower i j
    by true e g = inl (e, omega (arith, ltb-true i j e, eqb-true (j - i) 1 g))
    by false e g = inr (e, omega (arith, ltb-false i j e, eqb-true (i - j) 1 g))

module _ (n : ℕ) (few : n ≤ max_qubits) (b : ℕ → Bool) (t : State) (h : HoldsBits n b t) where
  -- ---- one mode

  pub turn_holds : (k : ℕ) (u : Mat2) (a : Mono2) → Has2 u a → k < n
      → HoldsBits n (turn1 k u b) (evolved_from n (one k (majorana_map1_of u).q ∷ []) t)
  turn_holds k u a U l =
      subst (HoldsBits n (turn1 k u b)) (sym (one-applied n few t k (majorana_map1_of u).q l))
      (one_holds n k b (turn1 k u b) t u a U l h
      (update_here k (turned_of u (b k)) b ∙ turned-is u a U (b k)) (λ j e. sym (update-away k (turned_of u (b k)) b j e)))

  -- ---- two modes, the lower first

  pair-holds : (k : ℕ) (u : Mat4) (a : Mono4) → Has4 u a → IsMatchgate a → k + 1 < n
      → HoldsBits n (turn2 k (k + 1) u b) (evolved_from n (two k (majorana_map2_of u).q ∷ []) t)
  pair-holds k u a U F l =
      let x = first_of u (b k) (b (k + 1)) in
      let y = second_of u (b k) (b (k + 1)) in
      let ne : k ≢ k + 1 = λ e. omega arith in
      subst (HoldsBits n (turn2 k (k + 1) u b)) (sym (two-applied n few t k (majorana_map2_of u).q l))
      (two-holds n k b (turn2 k (k + 1) u b) t u a U F l h
      (two-first k (k + 1) x y b ne ∙ first-is u a U (b k) (b (k + 1)))
      (two-second k (k + 1) x y b ne ∙ second_is u a U (b k) (b (k + 1)))
      (λ j e g. sym (two-away k (k + 1) x y b ne j e g)))

  -- ---- in the order's orientation

  rising : (i j : ℕ) (v : Mat4) (c : Mono4) → Has4 v c → IsMatchgate c → j ≡ i + 1 → j < n
      → HoldsBits n (turn2 i j v b) (evolved_from n (two i (majorana_map2_of v).q ∷ []) t)
  rising i j v c H F e l =
      subst (λ k. HoldsBits n (turn2 i k v b) (evolved_from n (two i (majorana_map2_of v).q ∷ []) t)) (sym e)
      (pair-holds i v c H F (subst (λ k. k < n) e l))

  -- the qubits are named in the other order
  falling : (i j : ℕ) (v : Mat4) (c : Mono4) → Has4 v c → IsMatchgate c → i ≡ j + 1 → i < n
      → HoldsBits n (turn2 i j v b) (evolved_from n (two j (majorana_map2_of (mat4_swap_qubits_of v)).q ∷ []) t)
  falling i j v c H F e l =
      let ne : j ≢ i = λ g. omega arith in
      subst (λ (f : ℕ → Bool). HoldsBits n f (evolved_from n (two j (majorana_map2_of (mat4_swap_qubits_of v)).q ∷ []) t))
      (two-renamed {Q = IsMatchgate} j i ne b v (c, H, F))
      (rising j i (mat4_swap_qubits_of v) (renamed c) (renamed-has v c H) (renamed-fits c F) e l)

  -- where the test `i < j` gives s
  abbrev Oriented : ℕ → ℕ → Mat4 → Bool → Type 0
  Oriented i j v s = HoldsBits n (turn2 i j v b) (evolved_from n (two (cond s i j) (majorana_map2_of (cond s v (mat4_swap_qubits_of v))).q ∷ []) t)

  pub match-holds : (i j : ℕ) (v : Mat4) (c : Mono4) → Has4 v c → IsMatchgate c → i < n → j < n → beside_of i j ≡ true
      → HoldsBits n (turn2 i j v b) (evolved_from n (two (lower_of i j) (majorana_map2_of (oriented_of i j v)).q ∷ []) t)
  unfolding oriented_of
  match-holds i j v c H F li lj e = by (lower i j e)
    where
      by : Lower i j → Oriented i j v (ltb i j)
      by (inl g) = subst (Oriented i j v) (sym g.0) (rising i j v c H F g.1 lj)
      by (inr g) = subst (Oriented i j v) (sym g.0) (falling i j v c H F g.1 li)
