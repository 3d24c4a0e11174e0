-- The operations of one record more; the number of an item's operations is its share's; modes count only on wires. Assumes nothing.
use mathlib.Core.Path.{◌≡◌, refl, sym, ap, ap₂, ◌∙◌}
use mathlib.Core.Logic.{◌⊎◌, inl, inr}
use mathlib.Core.Bool.{Bool, true, false}
use mathlib.Core.List.{List, [], ◌∷◌, ◌++◌}
use Prim.Native.Nat.{ℕ, zero, suc, ◌+◌, ◌≤◌, ◌<◌}
use native.Mathlib.Numerals.{add-one}
use native.Mathlib.Omega.{arith}
use lib.ListN.{length, length-append}
use lib.Seq.{paste}
use lib.Ieee.{Float, le}
use Rattle.detect.specs.declared.count.Counts.{Counts}
use Rattle.laws.specs.Bounds.{op_places}
use Rattle.std.proofs.lemmas.Bool.{cases_eq, cond_both}
use Rattle.real.specs.declared.maps.Map2.{Map2}
use Rattle.gate.specs.declared.matrix.Mat4.{Mat4}
use Rattle.work.specs.Marks.{mark_at}
use Rattle.work.specs.Columns.{kind_column, a_column, b_column, match_item, diagonal_item, interaction_item}
use Rattle.fuse.specs.Layout.{matrix4_of}
use Rattle.majorana.specs.Majorana.{majorana_map1_of, majorana_map2_of}
use Rattle.majorana.specs.declared.maps.Mapped.{Mapped}
use Rattle.classify.specs.Diagonal.{phase_a_of, phase_b_of, interaction_of, unit_of, rotation_of}
use Rattle.std.specs.Prelude.{Option, Some, None}
use Rattle.order.specs.Arrangement.{beside_of}
use Rattle.resolve.specs.Items as Items
use Rattle.resolve.specs.Items.{Item, ItemKind, ItemBelow, ItemsBelow}
use Rattle.resolve.specs.Slots.{kind_at}
use Rattle.detect.specs.Operation.{Operation, one, two, interaction, one_places, places_of, all_places, Put}
use Rattle.detect.specs.Emit.{oriented_of, lower_of, rotated, rotations_of, two_operations, item_operations, operations_of}
use Rattle.detect.specs.Counts.{one_share, adjacent_share, match_share, turned, turns_in, two_share}
use Rattle.detect.specs.Counts.{plus_of, share_of, counted_onto, counts_of}
use Rattle.work.specs.Kinds.{is_item_of}
use Rattle.detect.specs.Records.{record_item, items_in}
use Rattle.detect.proofs.Items.{items_more, items-same, items-none, record-two}
use Rattle.detect.proofs.Placing.{all_append, one-long, put-none, put_one, put-length, put_both}

-- ---- one record more

module _ (xs : List Float) (us : List ℕ) (pos : ℕ → ℕ) where
  -- the operations of the first i records
  abbrev pub emitted : ℕ → List Operation
  emitted i = operations_of pos (items_in xs us i)

  pub emitted-none : emitted 0 ≡ []
  unfolding operations_of
  emitted-none = ap (operations_of pos) (items-none xs us)

  pub emitted-more : (i : ℕ) → is_item_of (mark_at us i kind_column) ≡ true
      → emitted (i + 1) ≡ emitted i ++ item_operations pos (length (items_in xs us i)) (record_item xs us i)
  unfolding operations_of
  emitted-more i e = ap (operations_of pos) (items_more xs us i e)

  pub emitted-same : (i : ℕ) → is_item_of (mark_at us i kind_column) ≡ false → emitted (i + 1) ≡ emitted i
  emitted-same i e = ap (operations_of pos) (items-same xs us i e)

  -- what is written grows
  grows : (i : ℕ) (b : Bool) → is_item_of (mark_at us i kind_column) ≡ b → length (all_places (emitted i)) ≤ length (all_places (emitted (i + 1)))
  grows i true e =
      let more = ap (λ os. length (all_places os)) (emitted-more i e) in
      let x = item_operations pos (length (items_in xs us i)) (record_item xs us i) in
      omega (arith, more, ap length (all_append (emitted i) x), length-append (all_places (emitted i)) (all_places x))
  grows i false e = omega (arith, ap (λ os. length (all_places os)) (emitted-same i e))

  pub emitted-fits : (i m : ℕ) → i ≤ m → length (all_places (emitted i)) ≤ length (all_places (emitted m))
  emitted-fits i zero h = let z : i ≡ 0 = omega arith in rw z (omega arith)
  emitted-fits i (suc m) h = go (cases_eq i (suc m)) (λ l. emitted-fits i m l)
    where
      go : (i ≡ suc m) ⊎ (i ≡ suc m → ⊥) → (i ≤ m → length (all_places (emitted i)) ≤ length (all_places (emitted m)))
          → length (all_places (emitted i)) ≤ length (all_places (emitted (suc m)))
      go (inl e) ih = rw e (omega arith)
      go (inr ne) ih =
          let step : length (all_places (emitted m)) ≤ length (all_places (emitted (suc m))) =
          rw add-one at (grows m (is_item_of (mark_at us m kind_column)) refl) in
          omega (arith, ih (omega (arith, ne)), step)

-- ---- the number of operations

turned-is : (k : ℕ) (x : Option Map2) → turned x ≡ length (rotated k x)
turned-is k (Some q) = refl
turned-is k None = refl

pub turns-is : (i j : ℕ) (v : Mat4) → turns_in v ≡ length (rotations_of i j v)
unfolding turns_in rotations_of
turns-is i j v =
    let a = rotation_of (phase_a_of v) in
    let b = rotation_of (phase_b_of v) in
    ap₂ ◌+◌ (turned-is i a) (turned-is j b) ∙ sym (length-append (rotated i a) (rotated j b))

one-operations : (tol : Float) (m : Mapped Map2) → (one_share tol m).operations ≡ 1
unfolding one_share
one-operations tol m = cond_both (le m.residual tol) _ _ (λ (z : Counts). z.operations ≡ 1) (λ _. refl) (λ _. refl)

match-operations : (i j : ℕ) (r : Float) (v : Mat4) → (match_share i j r v).operations ≡ 1
unfolding match_share adjacent_share
match-operations i j r v = cond_both (beside_of i j) _ _ (λ (z : Counts). z.operations ≡ 1) (λ _. refl) (λ _. refl)

two-operations : (block : ℕ) (kind : ItemKind) (i j : ℕ) (r : Float) (v : Mat4)
    → (two_share kind i j r v).operations ≡ length (two_operations block kind i j v)
unfolding two_share two_operations
two-operations block Items.matchgate i j r v = match-operations i j r v
two-operations block Items.phaseless i j r v = turns-is i j v
two-operations block Items.interacting i j r v =
    omega (arith, turns-is i j v, length-append (rotations_of i j v) (interaction i block j (unit_of (interaction_of v)) ∷ []))
two-operations block Items.neither i j r v = refl

module _ (tol : Float) (pos : ℕ → ℕ) where
  item-operations : (block : ℕ) (x : Item) → (share_of tol pos x).operations ≡ length (item_operations pos block x)
  item-operations block (Items.one w u) = one-operations tol (majorana_map1_of u)
  item-operations block (Items.two kind a b r v) = two-operations block kind (pos a) (pos b) r v
  item-operations block Items.opaque = refl

  -- the counts have the number of operations
  pub counts-operations : (l : List Item) → (counts_of tol pos l).operations ≡ length (operations_of pos l)
  unfolding counted_onto operations_of plus_of
  counts-operations [] = refl
  counts-operations (x ∷ l) =
      omega (arith, counts-operations l, item-operations (length l) x, length-append (operations_of pos l) (item_operations pos (length l) x))

-- ---- modes

-- only the modes of wires count
module _ (n : ℕ) (pos pos' : ℕ → ℕ) (same : (w : ℕ) → w < n → pos w ≡ pos' w) where
  item-same : (block : ℕ) (x : Item) → ItemBelow n x → item_operations pos block x ≡ item_operations pos' block x
  item-same block (Items.one w u) h = ap (λ k. one k (majorana_map1_of u).q ∷ []) (same w h)
  item-same block (Items.two kind a b r v) h = ap₂ (λ i j. two_operations block kind i j v) (same a h.0) (same b h.1)
  item-same block Items.opaque h = refl

  pub operations-same : (l : List Item) → ItemsBelow n l → operations_of pos l ≡ operations_of pos' l
  unfolding operations_of
  operations-same [] h = refl
  operations-same (x ∷ l) h = ap₂ ◌++◌ (operations-same l h.1) (item-same (length l) x h.0)

  share-same : (tol : Float) (x : Item) → ItemBelow n x → share_of tol pos x ≡ share_of tol pos' x
  share-same tol (Items.one w u) h = refl
  share-same tol (Items.two kind a b r v) h = ap₂ (λ i j. two_share kind i j r v) (same a h.0) (same b h.1)
  share-same tol Items.opaque h = refl

  pub counts_same : (tol : Float) (l : List Item) → ItemsBelow n l → counts_of tol pos l ≡ counts_of tol pos' l
  unfolding counted_onto
  counts_same tol [] h = refl
  counts_same tol (x ∷ l) h = ap₂ plus_of (counts_same tol l h.1) (share-same tol x h.0)

-- ---- by the mark of the kind

module _ (block mark i j : ℕ) (v : Mat4) where
  two-match : mark ≡ match_item → two_operations block (kind_at mark) i j v ≡ two (lower_of i j) (majorana_map2_of (oriented_of i j v)).q ∷ []
  unfolding two_operations kind_at
  two-match e = rw e refl

  pub two-diagonal : mark ≡ diagonal_item → two_operations block (kind_at mark) i j v ≡ rotations_of i j v
  unfolding two_operations kind_at
  two-diagonal e = rw e refl

  pub two-interaction : mark ≡ interaction_item
      → two_operations block (kind_at mark) i j v ≡ rotations_of i j v ++ (interaction i block j (unit_of (interaction_of v)) ∷ [])
  unfolding two_operations kind_at
  two-interaction e = rw e refl

-- the operation of the matchgate of record i
module _ (xs : List Float) (us : List ℕ) (pos : ℕ → ℕ) where
  abbrev pub match_of : ℕ → Operation
  match_of i =
      let a = pos (mark_at us i a_column) in
      let b = pos (mark_at us i b_column) in
      two (lower_of a b) (majorana_map2_of (oriented_of a b (matrix4_of xs i))).q

  pub record-match : (block i : ℕ) → mark_at us i kind_column ≡ match_item → item_operations pos block (record_item xs us i) ≡ match_of i ∷ []
  record-match block i e =
      rw (record-two xs us i (λ q. omega (arith, e, q)) (λ q. omega (arith, e, q)))
      (two-match block (mark_at us i kind_column) (pos (mark_at us i a_column)) (pos (mark_at us i b_column)) (matrix4_of xs i) e)

-- ---- rotations

module _ {q : Map2} (k : ℕ) (x : Option Map2) (e : x ≡ Some q) where
  pub by-long : length (all_places (rotated k x)) ≡ op_places
  by-long = rw e (one-long (one k q))

  pub put-by : (p : ℕ) (l m y : List Float) → y ≡ one_places k q → m ≡ paste l p y op_places → Put (rotated k x) p l m (p + op_places)
  unfolding places_of
  put-by p l m y h g = rw e (put_one p l (one k q) m y h g)

pub put-nothing : (k : ℕ) (x : Option Map2) (p : ℕ) (l : List Float) → x ≡ None → Put (rotated k x) p l l p
put-nothing k x p l e = rw e (put-none p l)

-- ---- a turn of the loop

module _ (xs : List Float) (us : List ℕ) (pos : ℕ → ℕ) (i p r block : ℕ) (l m m' : List Float)
    (is : is_item_of (mark_at us i kind_column) ≡ true) (sofar : Put (emitted xs us pos i) 0 l m p) (number : block ≡ length (items_in xs us i))
    (new : Put (item_operations pos block (record_item xs us i)) p m m' r)
    (room : length (all_places (emitted xs us pos i ++ item_operations pos (length (items_in xs us i)) (record_item xs us i))) ≤ length l) where
  all : Put (emitted xs us pos i ++ item_operations pos (length (items_in xs us i)) (record_item xs us i)) 0 l m' r
  all =
      put_both 0 l (emitted xs us pos i) (item_operations pos (length (items_in xs us i)) (record_item xs us i)) (omega (arith, room)) m m' p r sofar
      (rw number at new)

  pub turn-put : Put (emitted xs us pos (i + 1)) 0 l m' r
  turn-put = rw (emitted-more xs us pos i is) all

  pub turn-number : block + 1 ≡ length (items_in xs us (i + 1))
  turn-number = omega (arith, number, ap length (items_more xs us i is))

  pub turn-length : length m' ≡ length l
  turn-length = put-length 0 l (emitted xs us pos i ++ item_operations pos (length (items_in xs us i)) (record_item xs us i)) m' r all (omega (arith, room))
