-- Every operation of an accepted tape's program is one that `apply` takes: its modes are below n, so none is turned down by question 17. A mode is a wire's place
-- in the order; a matchgate is emitted only where its modes are neighbours, as one that is not would be a bad block. Assumes nothing.
use mathlib.Core.Path.{◌≡◌, refl}
use mathlib.Core.Logic.{◌⊎◌, inl, inr}
use mathlib.Core.Bool.{Bool, true, false, cond}
use mathlib.Core.List.{List, [], ◌∷◌, Memᴰ}
use Prim.Native.Nat.{ℕ, ◌+◌, ◌-◌, ◌≤◌, ◌<◌}
use native.Mathlib.Omega.{arith}
use lib.ListN.{length}
use lib.Ieee.{Float}
use borrow.Author.Tests.{eqb-true, lt-ltb, le-ltb}
use Rattle.laws.specs.Bounds.{max_qubits}
use Rattle.std.proofs.lemmas.Bool.{cases_lt, true_from_ne_false, cond_both}
use Rattle.laws.proofs.Lists.{all_append}
use Rattle.gate.specs.declared.matrix.Mat4.{Mat4}
use Rattle.tape.specs.Good.{GoodGate}
use Rattle.tape.specs.declared.header.Header.{Header}
use Rattle.tape.specs.declared.gates.Gate.{Gate}
use Rattle.majorana.specs.Majorana.{majorana_map2_of}
use Rattle.classify.specs.Diagonal.{phase_a_of, phase_b_of, interaction_of, unit_of, rotation_of}
use Rattle.std.specs.Prelude.{Option, Some, None}
use Rattle.real.specs.declared.maps.Map2.{Map2}
use Rattle.order.specs.Arrangement.{abs_diff_of, beside_of}
use Rattle.order.proofs.Permutation.{order-permutes}
use Rattle.resolve.specs.Items as Items
use Rattle.resolve.specs.Items.{Item, ItemKind, ItemBelow, ItemsBelow}
use Rattle.detect.specs.Operation.{Operation, one, two, interaction, places_of}
use Rattle.detect.specs.Emit.{oriented_of, lower_of, rotated, rotations_of, two_operations, item_operations, operations_of}
use Rattle.detect.specs.Counts.{apart, adjacent_share, match_share, two_share, plus_of, share_of, counted_onto, counts_of}
use Rattle.detect.specs.Report.{free_of}
use Rattle.detect.specs.Compile.{reorders_of, match_pairs, items_of, order_of, mode_of_wire, tape_counts, program_of}
use Rattle.detect.proofs.Wires.{wires-items}
use Rattle.state.specs.Operation.{decode_of, Fits}
use Rattle.evolve.specs.Evolve.{read_back, AllFit}
use Rattle.evolve.proofs.Decoding.{decode-one, decode-two, decode-interaction}

-- such an operation is decoded
pub fits-decodes : (n : ℕ) (o : Operation) → n ≤ max_qubits → Fits n (read_back o) → decode_of n (places_of o) ≡ Some (read_back o)
unfolding Fits
fits-decodes n (one k q) m f = decode-one n k q f m
fits-decodes n (two k q) m f = decode-two n k q f m
fits-decodes n (interaction k block second w) m f = decode-interaction n k block second w

-- ---- what an item becomes

-- a matchgate that is not bad is on neighbours
pub match-beside : (i j : ℕ) (r : Float) (v : Mat4) → (match_share i j r v).bad ≡ 0 → beside_of i j ≡ true
unfolding match_share
match-beside i j r v e = true_from_ne_false _ (λ f. let z = rw f at e in omega (arith, z))

module _ (n : ℕ) where
  rotated-fits : (k : ℕ) (x : Option Map2) → k < n → AllFit n (rotated k x)
  unfolding Fits
  rotated-fits k (Some q) h = (h, tt)
  rotated-fits k None h = tt

  rotations-fit : (i j : ℕ) (v : Mat4) → i < n → j < n → AllFit n (rotations_of i j v)
  unfolding rotations_of
  rotations-fit i j v h g =
      all_append (λ o. Fits n (read_back o)) (rotated i (rotation_of (phase_a_of v))) (rotated j (rotation_of (phase_b_of v))) (rotated-fits i (rotation_of (phase_a_of v)) h)
      (rotated-fits j (rotation_of (phase_b_of v)) g)

  -- the lower of two neighbours has its successor below n
  lower-fits : (i j : ℕ) → i < n → j < n → beside_of i j ≡ true → lower_of i j + 1 < n
  lower-fits i j h g e = by (cases_lt i j)
    where
      d : abs_diff_of i j ≡ 1
      d = eqb-true (abs_diff_of i j) 1 e

      by : (i < j) ⊎ (j ≤ i) → lower_of i j + 1 < n
      by (inl l) = let t = lt-ltb i j l in let d' : j - i ≡ 1 = rw t at d in rw t (omega arith)
      by (inr l) = let t = le-ltb i j l in let d' : i - j ≡ 1 = rw t at d in rw t (omega arith)

  two-fit : (block : ℕ) (kind : ItemKind) (i j : ℕ) (r : Float) (v : Mat4) → i < n → j < n → (two_share kind i j r v).bad ≡ 0
      → AllFit n (two_operations block kind i j v)
  unfolding two_share two_operations Fits
  two-fit block Items.matchgate i j r v h g e = (lower-fits i j h g (match-beside i j r v e), tt)
  two-fit block Items.phaseless i j r v h g e = rotations-fit i j v h g
  two-fit block Items.interacting i j r v h g e =
      all_append (λ o. Fits n (read_back o)) (rotations_of i j v) (interaction i block j (unit_of (interaction_of v)) ∷ []) (rotations-fit i j v h g) (tt, tt)
  two-fit block Items.neither i j r v h g e = tt

  -- ---- the items

  module _ (tol : Float) (pos : ℕ → ℕ) (there : (w : ℕ) → w < n → pos w < n) where
    item-fits : (block : ℕ) (x : Item) → ItemBelow n x → (share_of tol pos x).bad ≡ 0 → AllFit n (item_operations pos block x)
    unfolding Fits
    item-fits block (Items.one w u) h e = (there w h, tt)
    item-fits block (Items.two kind a b r v) h e = two-fit block kind (pos a) (pos b) r v (there a h.0) (there b h.1) e
    item-fits block Items.opaque h e = tt

    pub operations-fit : (l : List Item) → ItemsBelow n l → (counts_of tol pos l).bad ≡ 0 → AllFit n (operations_of pos l)
    unfolding operations_of counted_onto plus_of
    operations-fit [] h e = tt
    operations-fit (x ∷ l) h e =
        all_append (λ o. Fits n (read_back o)) (operations_of pos l) (item_operations pos (length l) x) (operations-fit l h.1 (omega (arith, e)))
        (item-fits (length l) x h.0 (omega (arith, e)))

-- ---- the program of a tape

module _ (h : Header) (gs : List Gate) (good : (x : Gate) → Memᴰ x gs → GoodGate h.n x) where
  mode-there : (w : ℕ) → w < h.n → mode_of_wire h gs w < h.n
  unfolding order_of
  mode-there w l = (order-permutes (reorders_of h) h.n (match_pairs (items_of h gs).items)).there w l

  pub program-fits : AllFit h.n (program_of h gs)
  unfolding program_of tape_counts
  program-fits =
      cond_both (free_of (tape_counts h gs)) _ _ (AllFit h.n)
      (λ e. operations-fit h.n h.tolerance (mode_of_wire h gs) mode-there (items_of h gs).items (wires-items h gs good) (eqb-true (tape_counts h gs).bad 0 e))
      (λ _. tt)
