-- Laws of the loops that settle the signs of some indices: which indices are marked, an index more; in the rows, in a row's part, in the columns; and
-- the rows after the columns. Assumes nothing.
use mathlib.Core.Path.{◌≡◌, refl, sym, ap, ◌∙◌}
use mathlib.Core.Logic.{◌⊎◌, inl, inr, ◌≢◌}
use mathlib.Core.Bool.{Bool, true, false, cond, ◌&&◌, ◌||◌, false≢true, true≢false}
use mathlib.Core.List.{List}
use Prim.Native.Nat.{ℕ, ◌+◌, ◌*◌, ◌-◌, ◌≤◌, ◌<◌}
use native.Mathlib.Nat.{le_refl, le_of_eq, add_assoc}
use native.Mathlib.Omega.{arith}
use lib.Dec.{eqb}
use lib.ListN.{length, get_or, set, length-set}
use lib.Seq.{get_or-set_same, get_or-set_other}
use lib.Ieee.{Float, nan, neg, lt}
use borrow.Author.Tests.{eq-eqb, ne_eqb}
use Rattle.laws.specs.Zeros.{+0, +1, sg}
use Rattle.laws.specs.Tables.{update}
use Rattle.laws.specs.Matrix.{Mat, at, matrix, Is}
use Rattle.laws.specs.Maps.{inside}
use Rattle.laws.specs.Loops.{up_to, by_row, by_col}
use Rattle.std.proofs.lemmas.Bool.{cases_lt, cases_eq}
use Rattle.laws.proofs.Tables.{update_here, update-away}
use Rattle.laws.proofs.Maps.{inside-yes, inside-below, inside-above}
use Rattle.laws.proofs.Matrix.{matrix-is, at_set_same, at_set_other, after-set, at-set-after}
use Rattle.laws.proofs.Loops.{more, up_left}
use Rattle.laws.proofs.Columns.{entry_more}
use Rattle.local.specs.Bounds.{state_places}
use Rattle.local.specs.State.{State, state_at, stored, Stored}
use Rattle.local.specs.Apply.{unsettled, calm}
use Rattle.std.proofs.lemmas.List.Folds.{list_any_at}
use Rattle.std.proofs.lemmas.List.{get_or-take, get_or-drop, length-take-le, length-drop}
use lib.ListN.{take, drop}
use Rattle.local.specs.Parts.{any_below}
use Rattle.local.specs.declared.signs.Below.{Below}
use Rattle.local.specs.Parts.{Below4, band, settled_state, rows_settled, columns_settled, part_settled, row_negated, settled_row, settled_entry}
use Rattle.local.proofs.Stored.{same, alike_is, stored_is, is-stored}

-- ---- which indices are marked

module _ (s j : ℕ) where
  inside-next : (x : ℕ) → x ≢ s + j → inside (band s (j + 1)) x ≡ inside (band s j) x
  inside-next x ne = by (cases_lt x s) (cases_lt x (s + j))
    where
      by : (x < s) ⊎ (s ≤ x) → (x < s + j) ⊎ (s + j ≤ x) → inside (band s (j + 1)) x ≡ inside (band s j) x
      by (inl a) _ = inside-below (band s (j + 1)) x a ∙ sym (inside-below (band s j) x a)
      by (inr a) (inl b) = inside-yes (band s (j + 1)) x a (omega arith) ∙ sym (inside-yes (band s j) x a b)
      by (inr a) (inr b) = inside-above (band s (j + 1)) x (omega arith) ∙ sym (inside-above (band s j) x b)

  -- the next index is marked where its sign is below zero
  next-mark : (d : ℕ → Float) (x : ℕ) → unsettled (band s (j + 1)) d x ≡ update (s + j) (lt (d (s + j)) +0) (unsettled (band s j) d) x
  next-mark d x = by (cases_eq x (s + j))
    where
      by : (x ≡ s + j) ⊎ (x ≢ s + j) → unsettled (band s (j + 1)) d x ≡ update (s + j) (lt (d (s + j)) +0) (unsettled (band s j) d) x
      by (inl e) =
          ap (λ b. b && lt (d x) +0) (inside-yes (band s (j + 1)) x (omega arith) (omega arith))
          ∙ ap (λ n. lt (d n) +0) e
          ∙ sym (update_here (s + j) (lt (d (s + j)) +0) (unsettled (band s j) d))
          ∙ ap (update (s + j) (lt (d (s + j)) +0) (unsettled (band s j) d)) (sym e)
      by (inr ne) = ap (λ b. b && lt (d x) +0) (inside-next x ne) ∙ sym (update-away (s + j) (lt (d (s + j)) +0) (unsettled (band s j) d) x ne)

  -- before its turn it is not
  not_yet : (d : ℕ → Float) → unsettled (band s j) d (s + j) ≡ false
  not_yet d = ap (λ b. b && lt (d (s + j)) +0) (inside-above (band s j) (s + j) (le_refl (s + j)))

  module _ (d : ℕ → Float) where
    -- the marks after its turn: where its sign is not below zero they are the same, and else it is marked too
    mark-same : lt (d (s + j)) +0 ≡ false → (x : ℕ) → unsettled (band s j) d x ≡ unsettled (band s (j + 1)) d x
    mark-same f x = by (cases_eq x (s + j)) ∙ ap (λ u. update (s + j) u (unsettled (band s j) d) x) (sym f) ∙ sym (next-mark d x)
      where
        b : ℕ → Bool
        b = unsettled (band s j) d

        by : (x ≡ s + j) ⊎ (x ≢ s + j) → b x ≡ update (s + j) false b x
        by (inl q) = ap b q ∙ not_yet d ∙ sym (update_here (s + j) false b) ∙ ap (update (s + j) false b) (sym q)
        by (inr q) = sym (update-away (s + j) false b x q)

    mark-here : lt (d (s + j)) +0 ≡ true → true ≡ unsettled (band s (j + 1)) d (s + j)
    mark-here f =
        sym (update_here (s + j) true (unsettled (band s j) d)) ∙ ap (λ u. update (s + j) u (unsettled (band s j) d) (s + j)) (sym f)
        ∙ sym (next-mark d (s + j))

    mark-away : (x : ℕ) → x ≢ s + j → unsettled (band s j) d x ≡ unsettled (band s (j + 1)) d x
    mark-away x ne = sym (update-away (s + j) (lt (d (s + j)) +0) (unsettled (band s j) d) x ne) ∙ sym (next-mark d x)

-- none is marked where there are no indices, or where no sign is below zero
none-marked : (s k : ℕ) (d : ℕ → Float) → ((i : ℕ) → i < k → lt (d (s + i)) +0 ≡ false) → (x : ℕ) → unsettled (band s k) d x ≡ false
none-marked s k d none x = by (cases_lt x s) (cases_lt x (s + k))
  where
    by : (x < s) ⊎ (s ≤ x) → (x < s + k) ⊎ (s + k ≤ x) → unsettled (band s k) d x ≡ false
    by (inl a) _ = ap (λ b. b && lt (d x) +0) (inside-below (band s k) x a)
    by (inr a) (inr b) = ap (λ u. u && lt (d x) +0) (inside-above (band s k) x b)
    by (inr a) (inl b) =
        let e : x ≡ s + (x - s) = omega arith in
        ap (λ u. u && lt (d x) +0) (inside-yes (band s k) x a b) ∙ ap (λ n. lt (d n) +0) e ∙ none (x - s) (omega arith)

-- one sign more that is not below zero
pub none_more : (f : ℕ → Bool) (j : ℕ) → ((i : ℕ) → i < j → f i ≡ false) → f j ≡ false → (i : ℕ) → i < j + 1 → f i ≡ false
none_more f j none e i h = by (cases_eq i j) (cases_lt i j)
  where
    by : (i ≡ j) ⊎ (i ≢ j) → (i < j) ⊎ (j ≤ i) → f i ≡ false
    by (inl q) _ = ap f q ∙ e
    by (inr q) (inl g) = none i g
    by (inr q) (inr g) = absurd (q (omega arith))

-- none of four
or_left : (a b : Bool) → a || b ≡ false → a ≡ false
or_left true b e = e
or_left false b e = refl

or_right : (a b : Bool) → a || b ≡ false → b ≡ false
or_right true b e = absurd (false≢true (sym e))
or_right false b e = e

pub none_of_four : (f : ℕ → Bool) → f 0 || (f 1 || (f 2 || f 3)) ≡ false → (i : ℕ) → i < 4 → f i ≡ false
none_of_four f e =
    let e₁ = or_right (f 0) (f 1 || (f 2 || f 3)) e in
    let e₂ = or_right (f 1) (f 2 || f 3) e₁ in
    none_more f 3
    (none_more f 2
    (none_more f 1 (none_more f 0 (λ i h. absurd (omega arith)) (or_left (f 0) (f 1 || (f 2 || f 3)) e)) (or_left (f 1) (f 2 || f 3) e₁))
    (or_left (f 2) (f 3) e₂)) (or_right (f 2) (f 3) e₂)

-- none of the k signs from s on, as a part of the slice
pub none_below : (dim s k : ℕ) (v : List Float) → state_places dim ≤ length v → s + k ≤ dim
    → any_below (take (dim * dim + s + k - (dim * dim + s)) (drop (dim * dim + s) v)) ≡ false
    → (i : ℕ) → i < k → lt (get_or v (dim * dim + (s + i)) nan) +0 ≡ false
none_below dim s k v room b e i h = by (lt (get_or v (dim * dim + (s + i)) nan) +0) refl
  where
    part : List Float
    part = take (dim * dim + s + k - (dim * dim + s)) (drop (dim * dim + s) v)

    long : length part ≡ k
    long = length-take-le _ _ (omega (arith, room, length-drop (dim * dim + s) v)) ∙ omega arith

    here : get_or part i nan ≡ get_or v (dim * dim + (s + i)) nan
    here =
        get_or-take _ _ i nan (omega arith) ∙ get_or-drop (dim * dim + s) v i nan
        ∙ ap (λ n. get_or v n nan) (add_assoc (dim * dim) s i)

    by : (t : Bool) → lt (get_or v (dim * dim + (s + i)) nan) +0 ≡ t → lt (get_or v (dim * dim + (s + i)) nan) +0 ≡ false
    by false q = q
    by true q = absurd (true≢false (sym (list_any_at (λ x. lt x +0) part i nan (omega (arith, long)) (ap (λ x. lt x +0) here ∙ q)) ∙ e))

pub settled-none : (dim s k : ℕ) (v : List Float) → state_places dim ≤ length v → ((i : ℕ) → i < k → lt (get_or v (dim * dim + (s + i)) nan) +0 ≡ false)
    → v ≡ stored dim (settled_state (band s k) (state_at dim v)) v
settled-none dim s k v room none =
    is-stored dim v (settled_state (band s k) (state_at dim v)) v room
    (alike_is dim v (state_at dim v) (settled_state (band s k) (state_at dim v)) v (same dim v) (record {
      entries = λ r c h g. λ i. sg (sym (no r) i) (sg (sym (no c) i) (at dim v r c));
      signs = λ x h. λ i. cond (sym (no x) i) +1 ((state_at dim v).d x);
    }))
  where
    no : (x : ℕ) → unsettled (band s k) (state_at dim v).d x ≡ false
    no = none-marked s k (state_at dim v).d none

-- ---- a row negated, an entry a turn

abbrev pub RowNegated : ℕ → ℕ → List Float → ℕ → List Float → Type 0
RowNegated i dim m₀ n m = Is dim m₀ (up_to by_col n (row_negated i (at dim m₀)) (at dim m₀)) m

pub row-negated-more : (i dim n : ℕ) (m₀ m m' : List Float) → i < dim → n < dim → dim * dim ≤ length m₀ → RowNegated i dim m₀ n m
    → m' ≡ set m (i * dim + n) (neg (at dim m i n)) → RowNegated i dim m₀ (n + 1) m'
row-negated-more i dim n m₀ m m' hi hn room w e =
    entry_more (row_negated i (at dim m₀)) (at dim m₀) dim i n m₀ m m' (neg (at dim m i n)) hi hn room
    (λ r h ne. ap (λ b. sg b (at dim m₀ r n)) (ne_eqb r i ne))
    (ap neg (w.each i n hi hn ∙ up_left by_col (row_negated i (at dim m₀)) (at dim m₀) n i n (le_refl n))
    ∙ ap (λ b. sg b (at dim m₀ i n)) (sym (eq-eqb i i refl)))
    w e

-- ---- the rows: the start, and a turn

pub rows_none : (dim s : ℕ) (v : List Float) → Stored dim v (rows_settled (band s 0) (state_at dim v)) v
rows_none dim s v =
    alike_is dim v (state_at dim v) (rows_settled (band s 0) (state_at dim v)) v (same dim v) (record {
      entries = λ r c h g. λ i. sg (sym (no r) i) (at dim v r c);
      signs = λ x h. λ i. cond (sym (no x) i) +1 ((state_at dim v).d x);
    })
  where
    no : (x : ℕ) → unsettled (band s 0) (state_at dim v).d x ≡ false
    no = none-marked s 0 (state_at dim v).d (λ i h. absurd (omega arith))

module _ (dim s j : ℕ) (s₀ v v' : List Float) (t : State) (h : s + j < dim) (room : state_places dim ≤ length s₀)
    (w : Stored dim s₀ (rows_settled (band s j) t) v) (e : v' ≡ settled_row dim (s + j) v) where
  -- the sign that is tested
  sign-here : get_or v (dim * dim + (s + j)) nan ≡ t.d (s + j)
  sign-here = w.sign (s + j) h ∙ ap (λ x. cond x +1 (t.d (s + j))) (not_yet s j t.d)

  -- what the test makes of it
  did : (u : Bool) → lt (t.d (s + j)) +0 ≡ u → v' ≡ cond u (set (matrix dim (row_negated (s + j) (at dim v)) v) (dim * dim + (s + j)) +1) v
  unfolding settled_row
  did u f =
      e ∙ ap (λ z. cond (lt z +0) (set (matrix dim (row_negated (s + j) (at dim v)) v) (dim * dim + (s + j)) +1) v) sign-here
      ∙ ap (λ z. cond z (set (matrix dim (row_negated (s + j) (at dim v)) v) (dim * dim + (s + j)) +1) v) f

  kept : lt (t.d (s + j)) +0 ≡ false → Stored dim s₀ (rows_settled (band s (j + 1)) t) v'
  kept f =
      rw (did false f)
      (alike_is dim s₀ (rows_settled (band s j) t) (rows_settled (band s (j + 1)) t) v w (record {
        entries = λ r c g l. λ z. sg (mark-same s j t.d f r z) (t.m r c);
        signs = λ x g. λ z. cond (mark-same s j t.d f x z) +1 (t.d x);
      }))

  turned : lt (t.d (s + j)) +0 ≡ true → Stored dim s₀ (rows_settled (band s (j + 1)) t) v'
  turned f = record {
    long = ap length (did true f) ∙ length-set u (dim * dim + i) +1 ∙ c.long ∙ w.long;
    entry = λ r k g l. ap (λ z. at dim z r k) (did true f) ∙ at-set-after dim (dim * dim + i) r k u +1 (omega arith) g l ∙ c.each r k g l
        ∙ entry_of r k g l (cases_eq r i);
    sign = λ x g. ap (λ z. get_or z (dim * dim + x) nan) (did true f) ∙ sign_of x g (cases_eq x i);
    after = λ x g.
        ap (λ z. get_or z x nan) (did true f) ∙ get_or-set_other u (dim * dim + i) x +1 nan (λ q. omega arith) ∙ c.after x (omega arith) ∙ w.after x g;
  }
    where
      i : ℕ
      i = s + j

      u : List Float
      u = matrix dim (row_negated i (at dim v)) v

      c : Is dim v (row_negated i (at dim v)) u
      c = matrix-is dim v (row_negated i (at dim v)) u (omega (arith, w.long)) refl

      entry_of : (r k : ℕ) → r < dim → k < dim → (r ≡ i) ⊎ (r ≢ i) → row_negated i (at dim v) r k ≡ sg (unsettled (band s (j + 1)) t.d r) (t.m r k)
      entry_of r k g l (inl q) =
          ap (λ b. sg b (at dim v r k)) (eq-eqb r i q)
          ∙ ap neg (w.entry r k g l ∙ ap (λ b. sg b (t.m r k)) (ap (unsettled (band s j) t.d) q ∙ not_yet s j t.d))
          ∙ ap (λ b. sg b (t.m r k)) (mark-here s j t.d f ∙ ap (unsettled (band s (j + 1)) t.d) (sym q))
      entry_of r k g l (inr q) =
          ap (λ b. sg b (at dim v r k)) (ne_eqb r i q) ∙ w.entry r k g l ∙ ap (λ b. sg b (t.m r k)) (mark-away s j t.d r q)

      sign_of : (x : ℕ) → x < dim → (x ≡ i) ⊎ (x ≢ i) → get_or (set u (dim * dim + i) +1) (dim * dim + x) nan ≡ calm (band s (j + 1)) t.d x
      sign_of x g (inl q) =
          ap (λ n. get_or (set u (dim * dim + i) +1) (dim * dim + n) nan) q
          ∙ get_or-set_same u (dim * dim + i) +1 nan (omega (arith, c.long, w.long))
          ∙ (λ z. cond ((mark-here s j t.d f ∙ ap (unsettled (band s (j + 1)) t.d) (sym q)) z) +1 (t.d x))
      sign_of x g (inr q) =
          get_or-set_other u (dim * dim + i) (dim * dim + x) +1 nan (λ y. q (omega arith))
          ∙ c.after (dim * dim + x) (omega arith)
          ∙ w.sign x g
          ∙ (λ z. cond (mark-away s j t.d x q z) +1 (t.d x))

  pub rows_more : Stored dim s₀ (rows_settled (band s (j + 1)) t) v'
  rows_more = by (lt (t.d (s + j)) +0) refl
    where
      by : (u : Bool) → lt (t.d (s + j)) +0 ≡ u → Stored dim s₀ (rows_settled (band s (j + 1)) t) v'
      by true f = turned f
      by false f = kept f

-- ---- a row's part: the start, and a turn

abbrev pub PartTo : ℕ → ℕ → ℕ → List Float → ℕ → List Float → Type 0
PartTo dim i s m₀ j m = Is dim m₀ (part_settled (band s j) i (state_at dim m₀)) m

and-false : (b : Bool) → b && false ≡ false
and-false true = refl
and-false false = refl

pub part_none : (dim i s : ℕ) (m : List Float) → PartTo dim i s m 0 m
part_none dim i s m = record {
  long = refl;
  each = λ r c h g. λ z. sg (sym (ap (λ b. eqb r i && b) (none-marked s 0 (state_at dim m).d (λ x y. absurd (omega arith)) c)
      ∙ and-false (eqb r i)) z) (at dim m r c);
  after = λ x h. refl;
}

module _ (dim i s j : ℕ) (m₀ m : List Float) (hi : i < dim) (h : s + j < dim) (room : state_places dim ≤ length m₀) (w : PartTo dim i s m₀ j m) where
  d : ℕ → Float
  d = (state_at dim m₀).d

  part-sign : get_or m (dim * dim + (s + j)) nan ≡ get_or m₀ (dim * dim + (s + j)) nan
  part-sign = w.after (dim * dim + (s + j)) (omega arith)

  part-kept : lt (get_or m (dim * dim + (s + j)) nan) +0 ≡ false → PartTo dim i s m₀ (j + 1) m
  unfolding d
  part-kept f =
      let f' = ap (λ x. lt x +0) (sym part-sign) ∙ f in record {
        long = w.long;
        each = λ r c a b. w.each r c a b ∙ (λ z. sg (eqb r i && mark-same s j d f' c z) (at dim m₀ r c));
        after = w.after;
      }

  part-more : (m' : List Float) → lt (get_or m (dim * dim + (s + j)) nan) +0 ≡ true → m' ≡ set m (i * dim + (s + j)) (neg (at dim m i (s + j)))
      → PartTo dim i s m₀ (j + 1) m'
  unfolding d
  part-more m' f e = record {
    long = rw e (length-set m (i * dim + (s + j)) (neg (at dim m i (s + j))) ∙ w.long);
    each = λ r c a b. one r c a b (cases_eq r i) (cases_eq c (s + j));
    after = λ x y. rw e (after-set dim i (s + j) x m _ hi h y ∙ w.after x y);
  }
    where
      f' : lt (d (s + j)) +0 ≡ true
      f' = ap (λ x. lt x +0) (sym part-sign) ∙ f

      one : (r c : ℕ) → r < dim → c < dim → (r ≡ i) ⊎ (r ≢ i) → (c ≡ s + j) ⊎ (c ≢ s + j) → at dim m' r c ≡ part_settled (band s (j + 1)) i
          (state_at dim m₀) r c
      one r c a b (inl p) (inl q) =
          (λ t. at dim m' (p t) (q t))
          ∙ rw e (at_set_same dim i (s + j) m _ hi h (omega (arith, w.long)))
          ∙ ap neg (w.each i (s + j) hi h ∙ (λ t. sg ((ap (λ b. eqb i i && b) (not_yet s j d) ∙ and-false (eqb i i)) t) (at dim m₀ i (s + j))))
          ∙ (λ t. neg (at dim m₀ (sym p t) (sym q t)))
          ∙ (λ t. sg ((mark-here s j d f' ∙ ap (unsettled (band s (j + 1)) d) (sym q) ∙ ap (λ x. x && unsettled (band s (j + 1)) d c) (sym
          (eq-eqb r i p))) t) (at dim m₀ r c))
      one r c a b (inl p) (inr q) =
          rw e (at_set_other dim i (s + j) r c m _ h b (λ _ y. q y)) ∙ w.each r c a b ∙ (λ t. sg (eqb r i && mark-away s j d c q t) (at dim m₀ r c))
      one r c a b (inr p) _ =
          rw e (at_set_other dim i (s + j) r c m _ h b (λ x _. p x)) ∙ w.each r c a b
          ∙ (λ t. sg ((ap (λ x. x && unsettled (band s j) d c) (ne_eqb r i p) ∙ ap (λ x. x && unsettled (band s (j + 1)) d c) (sym
          (ne_eqb r i p))) t) (at dim m₀ r c))

  pub part-next : (m' : List Float) → m' ≡ settled_entry dim i (s + j) m → PartTo dim i s m₀ (j + 1) m'
  unfolding settled_entry
  part-next m' e = by (lt (get_or m (dim * dim + (s + j)) nan) +0) refl
    where
      moved : (u : Bool) → lt (get_or m (dim * dim + (s + j)) nan) +0 ≡ u → m' ≡ cond u (set m (i * dim + (s + j)) (neg (at dim m i (s + j)))) m
      moved u f = e ∙ ap (λ z. cond z (set m (i * dim + (s + j)) (neg (at dim m i (s + j)))) m) f

      by : (u : Bool) → lt (get_or m (dim * dim + (s + j)) nan) +0 ≡ u → PartTo dim i s m₀ (j + 1) m'
      by true f = part-more m' f (moved true f)
      by false f = rw (moved false f) (part-kept f)

-- the signs are still those of the start
pub sign_kept : (dim i s j x : ℕ) (b : Bool) (m₀ m : List Float) → PartTo dim i s m₀ j m → b ≡ lt (get_or m₀ (dim * dim + x) nan) +0
    → b ≡ lt (get_or m (dim * dim + x) nan) +0
sign_kept dim i s j x b m₀ m w e = e ∙ ap (λ y. lt y +0) (sym (w.after (dim * dim + x) (omega arith)))

-- ---- the columns, a row's part a turn

abbrev pub ColumnsTo : ℕ → ℕ → ℕ → List Float → ℕ → List Float → Type 0
ColumnsTo dim s k m₀ n m = Is dim m₀ (up_to by_row n (columns_settled (band s k) (state_at dim m₀)) (at dim m₀)) m

pub columns-more : (dim s k n : ℕ) (m₀ m m' : List Float) → n < dim → state_places dim ≤ length m₀ → s + k ≤ dim → ColumnsTo dim s k m₀ n m
    → m' ≡ matrix dim (part_settled (band s k) n (state_at dim m)) m → ColumnsTo dim s k m₀ (n + 1) m'
columns-more dim s k n m₀ m m' h room fit w e = more by_row new (at dim m₀) dim n m₀ m m' w c.long c.after other own
  where
    new : Mat
    new = columns_settled (band s k) (state_at dim m₀)

    c : Is dim m (part_settled (band s k) n (state_at dim m)) m'
    c = matrix-is dim m (part_settled (band s k) n (state_at dim m)) m' (omega (arith, w.long)) e

    -- the signs are those of the start
    mark : (x : ℕ) → x < dim → unsettled (band s k) (state_at dim m).d x ≡ unsettled (band s k) (state_at dim m₀).d x
    mark x g = λ t. inside (band s k) x && lt (w.after (dim * dim + x) (omega arith) t) +0

    other : (r x : ℕ) → r < dim → x < dim → r ≢ n → at dim m' r x ≡ at dim m r x
    other r x a b ne = c.each r x a b ∙ ap (λ t. sg (t && unsettled (band s k) (state_at dim m).d x) (at dim m r x)) (ne_eqb r n ne)

    own : (r x : ℕ) → r < dim → x < dim → r ≡ n → at dim m' r x ≡ new r x
    own r x a b q =
        c.each r x a b
        ∙ ap (λ t. sg (t && unsettled (band s k) (state_at dim m).d x) (at dim m r x)) (eq-eqb r n q)
        ∙ (λ t. sg (mark x b t) ((w.each r x a b ∙ up_left by_row new (at dim m₀) n r x (le_of_eq (sym q))) t))

-- the signs are still those of the start
pub signs-kept : (dim s n : ℕ) (signs : Below) (m₀ m : List Float) → ColumnsTo dim s 4 m₀ n m → Below4 m₀ dim s signs → Below4 m dim s signs
signs-kept dim s n signs m₀ m w b = record {
  first = b.first ∙ kept s;
  second = b.second ∙ kept (s + 1);
  third = b.third ∙ kept (s + 2);
  fourth = b.fourth ∙ kept (s + 3);
}
  where
    kept : (x : ℕ) → lt (get_or m₀ (dim * dim + x) nan) +0 ≡ lt (get_or m (dim * dim + x) nan) +0
    kept x = ap (λ y. lt y +0) (sym (w.after (dim * dim + x) (omega arith)))

-- ---- the columns, then the rows

pub settled-both : (dim s k : ℕ) (s₀ s₁ s₂ : List Float) → state_places dim ≤ length s₀ → s₁ ≡ matrix dim (columns_settled (band s k)
    (state_at dim s₀)) s₀
    → s₂ ≡ stored dim (rows_settled (band s k) (state_at dim s₁)) s₁ → s₂ ≡ stored dim (settled_state (band s k) (state_at dim s₀)) s₀
settled-both dim s k s₀ s₁ s₂ room e₁ e₂ = is-stored dim s₀ (settled_state (band s k) (state_at dim s₀)) s₂ room (record {
  long = w.long ∙ c.long;
  entry = λ r x a b. w.entry r x a b ∙ (λ t. sg (mark r a t) (c.each r x a b t));
  sign = λ x a. w.sign x a ∙ (λ t. cond (mark x a t) +1 (c.after (dim * dim + x) (omega arith) t));
  after = λ x a. w.after x a ∙ c.after x (omega arith);
})
  where
    c : Is dim s₀ (columns_settled (band s k) (state_at dim s₀)) s₁
    c = matrix-is dim s₀ (columns_settled (band s k) (state_at dim s₀)) s₁ (omega arith) e₁

    w : Stored dim s₁ (rows_settled (band s k) (state_at dim s₁)) s₂
    w = stored_is dim s₁ (rows_settled (band s k) (state_at dim s₁)) s₂ (omega (arith, c.long)) e₂

    mark : (x : ℕ) → x < dim → unsettled (band s k) (state_at dim s₁).d x ≡ unsettled (band s k) (state_at dim s₀).d x
    mark x g = λ t. inside (band s k) x && lt (c.after (dim * dim + x) (omega arith) t) +0
