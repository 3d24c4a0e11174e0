-- The operations of an item, by its kind, turn the bits of its modes as the item turns those of its wires; so the operations of a list of items
-- without bad blocks take the vacuum to the state of the bits that the items make of zeros. Assumes nothing.
use mathlib.Core.Path.{◌≡◌, sym, subst}
use mathlib.Core.Bool.{Bool, true}
use mathlib.Core.List.{List, [], ◌∷◌, ◌++◌}
use Prim.Native.Nat.{ℕ, ◌<◌, ◌≤◌}
use lib.ListN.{length}
use lib.Ieee.{Float}
use Rattle.laws.specs.Lists.{All, in_order}
use Rattle.laws.specs.Bounds.{max_qubits}
use Rattle.gate.specs.declared.matrix.Mat4.{Mat4}
use Rattle.classify.specs.Diagonal.{interaction_of, unit_of}
use Rattle.monomial.specs.Monomial.{Mono4, Has4, diagonal}
use Rattle.resolve.specs.Items.{Item, one, two, opaque, ItemKind, matchgate, phaseless, interacting, neither}
use Rattle.detect.specs.Counts.{two_share}
use Rattle.detect.specs.Operation.{interaction}
use Rattle.detect.specs.Emit.{rotations_of, two_operations, item_operations, operations_of}
use Rattle.local.specs.State.{State, vacuum}
use Rattle.basis.specs.Holds.{HoldsBits}
use Rattle.basis.proofs.Steps.{vacuum-holds}
use Rattle.evolve.specs.Evolve.{evolved_from}
use Rattle.register.specs.Bits.{turn2, zeros}
use Rattle.register.specs.Blocks.{KindIs, ItemIs}
use Rattle.register.proofs.Changes.{diagonal-still}
use Rattle.claim.specs.Modes.{mode_bits, modes_run}
use Rattle.claim.proofs.Modes.{Apart}
use Rattle.claim.proofs.Shares.{Free, beside, not-neither}
use Rattle.claim.proofs.Operations.{evolved-append}
use Rattle.claim.proofs.Rotations.{diagonal-phased, rotations-hold, interactions-hold}
use Rattle.claim.proofs.Matchgates.{turn_holds, match-holds}

-- ---- two wires, of modes i and j

module _ (n : ℕ) (few : n ≤ max_qubits) (block i j : ℕ) (li : i < n) (lj : j < n) (v : Mat4) (c : Mono4) (H : Has4 v c) (b : ℕ → Bool)
    (t : State) (h : HoldsBits n b t) where
  -- where the kind is k
  abbrev Moves : ItemKind → Type 0
  Moves k = HoldsBits n (turn2 i j v b) (evolved_from n (two_operations block k i j v) t)

  -- a diagonal block changes no bit
  stays : diagonal c ≡ true → (s : State) → HoldsBits n b s → HoldsBits n (turn2 i j v b) s
  stays d s = subst (λ (f : ℕ → Bool). HoldsBits n f s) (sym (diagonal-still i j v c H d b))

  pub two-moves : (relabel : Bool) (kind : ItemKind) (r : Float) → KindIs relabel c kind → (two_share kind i j r v).bad ≡ 0 → Moves kind
  unfolding two_operations
  two-moves relabel matchgate r (F, d) free = match-holds n few b t h i j v c H F li lj (beside i j r v free)
  two-moves relabel phaseless r (F, d) free =
      stays d (evolved_from n (rotations_of i j v) t) (rotations-hold n few b i j li lj v (diagonal-phased v c H d) t h)
  two-moves relabel interacting r (s, F, d) free =
      let w = unit_of (interaction_of v) in
      stays d (evolved_from n (rotations_of i j v ++ (interaction i block j w ∷ [])) t)
      (interactions-hold n few b i j li lj v (diagonal-phased v c H d) t h block w)
  two-moves relabel neither r k free = absurd (not-neither i j r v free)

-- ---- items

module _ (n : ℕ) (few : n ≤ max_qubits) (pos : ℕ → ℕ) (p : Apart n pos) (tol : Float) (relabel : Bool) (Q : Mono4 → Type 0) (P : ℕ → ℕ → Type 0)
    (Still : Type 0) where
  item-moves : (x : Item) → ItemIs relabel n Q P Still x → Free tol pos x → (block : ℕ) (b : ℕ → Bool) (t : State) → HoldsBits n b t
      → HoldsBits n (mode_bits pos x b) (evolved_from n (item_operations pos block x) t)
  item-moves (one w m) i f block b t h = turn_holds n few b t h (pos w) m i.1.0 i.1.1 (p.below w i.0)
  item-moves (two kind v w r u) i f block b t h =
      two-moves n few block (pos v) (pos w) (p.below v i.0.0) (p.below w i.0.1) u i.1.0 i.1.1 b t h relabel kind r i.1.3 f
  item-moves opaque i f block b t h = absurd i

  pub items-hold : (xs : List Item) → All (ItemIs relabel n Q P Still) xs → All (Free tol pos) xs
      → HoldsBits n (modes_run pos xs zeros) (evolved_from n (operations_of pos xs) vacuum)
  unfolding operations_of modes_run in_order
  items-hold [] i f = vacuum-holds n
  items-hold (x ∷ xs) i f =
      let b = modes_run pos xs zeros in
      let os = operations_of pos xs in
      subst (HoldsBits n (mode_bits pos x b)) (sym (evolved-append n os (item_operations pos (length xs) x) vacuum))
      (item-moves x i.0 f.0 (length xs) b (evolved_from n os vacuum) (items-hold xs i.1 f.1))
