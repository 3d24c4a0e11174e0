-- The closing tail of a block, gate by gate: what the loop over the events has gathered so far, with what each cut takes. Assumes nothing.
use mathlib.Core.Path.{◌≡◌, refl, sym, ap, ap₂, subst, ◌∙◌}
use mathlib.Core.Logic.{◌⊎◌, inl, inr, ⊎_elim}
use mathlib.Core.Bool.{Bool, true, false, cond, ◌||◌, true≢false}
use mathlib.Core.List.{List, [], ◌∷◌, ◌++◌, append_assoc, append-nil}
use Prim.Native.Nat.{ℕ, zero, suc, ◌+◌, ◌-◌, ◌≤◌, ◌<◌}
use native.Mathlib.Omega.{arith}
use native.Mathlib.Numerals.{add-one}
use native.Mathlib.Nat.{le_of_suc-le-suc, eq-or-lt_of_le, add-zero}
use lib.Dec.{eqb}
use lib.ListN.{length, get_or, take, length-append}
use lib.Seq.{take_all, take-append-le}
use lib.Ieee.{Float, nan}
use Rattle.std.proofs.lemmas.Bool.{cases_lt, or_parts}
use Rattle.laws.specs.Views.{until, up_from}
use Rattle.laws.proofs.Views.{up-head, up_same}
use Rattle.gate.specs.Matrix.{id2, time_step_of, time_product_of, time_product_from}
use Rattle.gate.specs.Lent.{mat2_at, store2_of, flat}
use Rattle.gate.specs.declared.matrix.Mat2.{Mat2}
use Rattle.gate.proofs.Stored.{length-row, place-stays, mat2-alike, mat2-back}
use Rattle.gate.proofs.Products.{time-product-more}
use Rattle.fuse.specs.Events.{Event, gone, one, two, three, one_on, block_on}
use Rattle.fuse.specs.Layout.{event_at, matrix2_of, one_at, block_at}
use Rattle.fuse.proofs.Places.{one-is, block-is, event-alike}
use Rattle.work.specs.Sizes.{record_floats}
use Rattle.work.specs.Rows.{record_at, float_place, FloatsAt, row_floats, matrix_floats}
use Rattle.work.specs.Marks.{mark_at}
use Rattle.resolve.specs.Cuts.{ones, ahead, prefix_of}
use Rattle.resolve.specs.Slots.{todo, RowOnly, PassedOver, Prefixes}

-- ---- the tail, event by event

pub ahead_none : (w : ℕ) → ahead w [] ≡ []
unfolding ahead until ones
ahead_none w = refl

ahead-block : (w : ℕ) (e : Event) (es : List Event) → block_on w e ≡ true → ahead w (e ∷ es) ≡ []
unfolding ahead until ones
ahead-block w e es h = rw h

ahead-skip : (w : ℕ) (e : Event) (es : List Event) → block_on w e ≡ false → one_on w e ≡ false → ahead w (e ∷ es) ≡ ahead w es
unfolding ahead until ones
ahead-skip w gone es h o = refl
ahead-skip w (one v m) es h o = rw o
ahead-skip w (two a b u) es h o = rw h
ahead-skip w (three a b c) es h o = rw h

ahead-one : (w v : ℕ) (m : Mat2) (es : List Event) → eqb v w ≡ true → ahead w (one v m ∷ es) ≡ m ∷ ahead w es
unfolding ahead until ones
ahead-one w v m es h = rw h

-- the tail from event j on, in terms of the marks
module _ (xs : List Float) (us : List ℕ) (s j g : ℕ) where
  tail-end : g ≤ j → ahead s (todo xs us j g) ≡ []
  unfolding up_from
  tail-end h =
      let n : g - j ≡ 0 = omega arith in
      ap (λ r. ahead s (up_from (event_at xs us) j r)) n ∙ ahead_none s

  head : j < g → ahead s (todo xs us j g) ≡ ahead s (event_at xs us j ∷ todo xs us (j + 1) g)
  head h = ap (ahead s) (up-head (event_at xs us) j g h)

  tail-block : j < g → block_at us s j ≡ true → ahead s (todo xs us j g) ≡ []
  tail-block h b = head h ∙ ahead-block s (event_at xs us j) (todo xs us (j + 1) g) (block-is xs us s j ∙ b)

  tail-skip : j < g → block_at us s j ≡ false → one_at us s j ≡ false → ahead s (todo xs us j g) ≡ ahead s (todo xs us (j + 1) g)
  tail-skip h b o = head h ∙ ahead-skip s (event_at xs us j) (todo xs us (j + 1) g) (block-is xs us s j ∙ b) (one-is xs us s j ∙ o)

  tail-one : j < g → one_at us s j ≡ true → ahead s (todo xs us j g) ≡ matrix2_of xs j ∷ ahead s (todo xs us (j + 1) g)
  unfolding event_at one_at
  tail-one h o = head h ∙ by (eqb (mark_at us j 0) 1) refl
    where
      by : (b : Bool) → eqb (mark_at us j 0) 1 ≡ b → ahead s (event_at xs us j ∷ todo xs us (j + 1) g) ≡ matrix2_of xs j ∷ ahead s (todo xs us (j + 1) g)
      by true e =
          rw e (ahead-one s (mark_at us j 1) (matrix2_of xs j) (todo xs us (j + 1) g) (sym (ap (λ b. cond b (eqb (mark_at us j 1) s) false) e) ∙ o))
      by false e = absurd (true≢false (sym o ∙ ap (λ b. cond b (eqb (mark_at us j 1) s) false) e))

-- ---- gates of other slots

-- n of them
tail-past : (xs : List Float) (us : List ℕ) (s j g n : ℕ) → j + n ≤ g
    → ((i : ℕ) → j ≤ i → i < j + n → (block_at us s i ≡ false) × (one_at us s i ≡ false)) → ahead s (todo xs us j g) ≡ ahead s (todo xs us (j + n) g)
tail-past xs us s j g zero h none = ap (λ k. ahead s (todo xs us k g)) (sym (add-zero j))
tail-past xs us s j g (suc n) h none =
    let here = none j (omega arith) (omega arith) in
    tail-skip xs us s j g (omega arith) here.0 here.1
    ∙ tail-past xs us s (j + 1) g n (omega arith) (λ i a b. none i (omega arith) (omega arith))
    ∙ ap (λ k. ahead s (todo xs us k g)) (omega arith)

tail-over : (xs : List Float) (us : List ℕ) (s j g r : ℕ) → PassedOver us s j g r → ahead s (todo xs us j g) ≡ ahead s (todo xs us r g)
tail-over xs us s j g r p =
    let e : j + (r - j) ≡ r = omega (arith, p.low) in
    tail-past xs us s j g (r - j) (omega (arith, p.low, p.high)) (λ i a b. p.none i a (omega (arith, p.low)))
    ∙ ap (λ k. ahead s (todo xs us k g)) e

-- gate i is passed over, or it is found
module _ (us : List ℕ) (s j g : ℕ) where
  pub pass-none : j ≤ g → PassedOver us s j g j
  pass-none h = record { low = omega arith; high = h; none = λ i a b. absurd (omega arith) }

  pub pass-more : (i : ℕ) (b o : Bool) → PassedOver us s j g i → i < g → b ≡ block_at us s i → o ≡ one_at us s i → (b || o) ≡ false
      → PassedOver us s j g (i + 1)
  pass-more i b o p h eb eo e =
      let both = or_parts b o e in
      record {
        low = omega (arith, p.low);
        high = omega arith;
        none = λ q a c. ⊎_elim (λ (z : q ≡ i). (ap (block_at us s) z ∙ sym eb ∙ both.0, ap (one_at us s) z ∙ sym eo ∙ both.1)) (λ l. p.none q a l)
            (eq-or-lt_of_le (le_of_suc-le-suc (rw (← add-one i) c)));
      }

  -- all of them
  pub pass-end : (i : ℕ) → PassedOver us s j g i → g ≤ i → PassedOver us s j g g
  pass-end i p h =
      let end : i ≡ g = omega (arith, p.high) in
      subst (λ n. PassedOver us s j g n) end p

pub ruleset passes_over = (pass-none, pass-more, pass-end)

-- ---- a row of the records

module _ (row : ℕ) where
  pub row-only-same : (xs : List Float) → RowOnly row xs xs
  row-only-same xs = record { size = refl; same = λ i q h a. refl }

  pub row-only-trans : (xs ys zs : List Float) → RowOnly row xs ys → RowOnly row ys zs → RowOnly row xs zs
  row-only-trans xs ys zs a b = record { size = b.size ∙ a.size; same = λ i q h c. b.same i q h c ∙ a.same i q h c }

  pub row-only-put : (xs ys : List Float) (t : ℕ) (m : Mat2) → row + row_floats ≤ record_floats
      → RowOnly row xs ys → RowOnly row xs (store2_of ys (float_place t row) m)
  row-only-put xs ys t m h o = record {
    size = length-row ys (float_place t row) (flat m) ∙ o.size;
    same = λ i q l a. place-stays ys (float_place t row) (flat m) (float_place i q) (apart i q l a) ∙ o.same i q l a;
  }
    where
      apart : (i q : ℕ) → q < record_floats → (q < row) ⊎ (row + row_floats ≤ q)
          → (float_place i q < float_place t row) ⊎ (float_place t row + row_floats ≤ float_place i q)
      apart i q l a = by (cases_lt (float_place i q) (float_place t row)) (cases_lt (float_place i q) (float_place t row + row_floats))
        where
          by : (float_place i q < float_place t row) ⊎ (float_place t row ≤ float_place i q)
              → (float_place i q < float_place t row + row_floats) ⊎ (float_place t row + row_floats ≤ float_place i q)
              → (float_place i q < float_place t row) ⊎ (float_place t row + row_floats ≤ float_place i q)
          by (inl x) y = inl x
          by (inr x) (inr y) = inr y
          by (inr x) (inl y) = absurd (⊎_elim (λ z. omega arith) (λ z. omega arith) a)

  -- the matrix of a record is elsewhere
  pub row-only-event : (xs ys : List Float) → matrix_floats ≤ row → RowOnly row xs ys → (us : List ℕ) (j : ℕ) → event_at ys us j ≡ event_at xs us j
  row-only-event xs ys h o us j = event-alike xs ys us us j refl refl refl refl (λ q a b. one q a b)
    where
      one : (q : ℕ) → record_at j ≤ q → q < record_at j + matrix_floats → get_or ys q nan ≡ get_or xs q nan
      one q a b =
          let e : q ≡ record_at j + (q - record_at j) = omega arith in
          ap (λ p. get_or ys p nan) e ∙ o.same j (q - record_at j) (omega arith) (inl (omega arith)) ∙ ap (λ p. get_or xs p nan) (sym e)

  pub row-only-matrix2 : (xs ys : List Float) → matrix_floats ≤ row → RowOnly row xs ys → (j : ℕ) → matrix2_of ys j ≡ matrix2_of xs j
  row-only-matrix2 xs ys h o j = mat2-alike xs ys (record_at j) (λ q a b. one q a b)
    where
      one : (q : ℕ) → record_at j ≤ q → q < float_place j row_floats → get_or ys q nan ≡ get_or xs q nan
      one q a b =
          let e : q ≡ record_at j + (q - record_at j) = omega arith in
          ap (λ p. get_or ys p nan) e ∙ o.same j (q - record_at j) (omega arith) (inl (omega arith)) ∙ ap (λ p. get_or xs p nan) (sym e)

-- ---- the invariant: `gs` is the tail so far

pub record Gathering (xs ys : List Float) (us : List ℕ) (k g s row len j : ℕ) (acc : Mat2) : Type 0 where
  pub gs : List Mat2
  pub count : length gs ≡ len
  pub start : k ≤ j
  pub end : j ≤ g
  pub few : len + k ≤ j
  pub only : RowOnly row xs ys
  pub tail : gs ++ ahead s (todo xs us j g) ≡ ahead s (todo xs us k g)
  pub now : acc ≡ time_product_of gs
  pub each : (t : ℕ) → t ≤ len → mat2_at ys (float_place t row) ≡ prefix_of gs t

pub gather_none : (xs : List Float) (us : List ℕ) (k g s row : ℕ) (acc : Mat2) → k ≤ g → acc ≡ id2 → mat2_at xs (float_place 0 row) ≡ acc
    → Gathering xs xs us k g s row 0 k acc
unfolding time_product_of time_product_from prefix_of
gather_none xs us k g s row acc h e back = record {
  gs = [];
  count = refl;
  start = omega arith;
  end = h;
  few = omega arith;
  only = row-only-same row xs;
  tail = refl;
  now = e;
  each = λ t l.
      let z : t ≡ 0 = omega arith in
      ap (λ t. mat2_at xs (float_place t row)) z ∙ back ∙ e ∙ sym (ap (λ t. time_product_of (take t [])) z);
}

module _ (xs ys : List Float) (us : List ℕ) (k g s row len j : ℕ) (acc : Mat2) (low : matrix_floats ≤ row) (high : row + row_floats ≤ record_floats)
    (i : Gathering xs ys us k g s row len j acc) where
  done : ahead s (todo xs us j g) ≡ [] → Prefixes xs ys us k g s row len
  done h =
      let all : i.gs ≡ ahead s (todo xs us k g) = sym (append-nil i.gs) ∙ ap (λ l. i.gs ++ l) (sym h) ∙ i.tail in
      record {
        only = i.only;
        few = omega (arith, i.few, i.end);
        long = sym i.count ∙ ap length all;
        each = λ t l. i.each t l ∙ ap (λ l. prefix_of l t) all;
      }

  pub gather-end : g ≤ j → Prefixes xs ys us k g s row len
  gather-end h = done (tail-end xs us s j g h)

  pub gather-block : j < g → block_at us s j ≡ true → Prefixes xs ys us k g s row len
  gather-block h b = done (tail-block xs us s j g h b)

  -- the gates from j on and before r are passed over
  pub gather-over : (r : ℕ) → PassedOver us s j g r → Gathering xs ys us k g s row len r acc
  gather-over r p = record {
    gs = i.gs;
    count = i.count;
    start = omega (arith, i.start, p.low);
    end = p.high;
    few = omega (arith, i.few, p.low);
    only = i.only;
    tail = ap (λ l. i.gs ++ l) (sym (tail-over xs us s j g r p)) ∙ i.tail;
    now = i.now;
    each = i.each;
  }

  pub gather-one : (m acc' : Mat2) → j < g → FloatsAt xs (len + 1) → one_at us s j ≡ true → m ≡ matrix2_of ys j → acc' ≡ time_step_of acc m
      → Gathering xs (store2_of ys (float_place (len + 1) row) acc') us k g s row (len + 1) (j + 1) acc'
  unfolding prefix_of
  gather-one m acc' h room o e a = record {
    gs = i.gs ++ (matrix2_of xs j ∷ []);
    count = length-append i.gs (matrix2_of xs j ∷ []) ∙ ap (λ n. n + 1) i.count;
    start = omega (arith, i.start);
    end = omega arith;
    few = omega (arith, i.few);
    only = row-only-put row xs ys (len + 1) acc' high i.only;
    tail = append_assoc i.gs (matrix2_of xs j ∷ []) (ahead s (todo xs us (j + 1) g)) ∙ ap (λ l. i.gs ++ l) (sym (tail-one xs us s j g h o)) ∙ i.tail;
    now = acc-is;
    each = λ t l. ⊎_elim (new t) (old t) (eq-or-lt_of_le l);
  }
    where
      acc-is : acc' ≡ time_product_of (i.gs ++ (matrix2_of xs j ∷ []))
      acc-is = a ∙ ap₂ time_step_of i.now (e ∙ row-only-matrix2 row xs ys low i.only j) ∙ sym (time-product-more i.gs (matrix2_of xs j))

      -- the newest cut takes all of it
      new : (t : ℕ) → t ≡ len + 1 → mat2_at (store2_of ys (float_place (len + 1) row) acc') (float_place t row)
          ≡ time_product_of (take t (i.gs ++ (matrix2_of xs j ∷ [])))
      new t p =
          rw p
          (mat2-back ys (float_place (len + 1) row) acc' (omega (arith, i.only.size)) ∙ acc-is
          ∙ ap time_product_of (sym (take_all (len + 1) (i.gs ++ (matrix2_of xs j ∷ [])) (omega (arith, length-append i.gs (matrix2_of xs j ∷ []), i.count)))))

      -- the others are as they were
      old : (t : ℕ) → t < len + 1 → mat2_at (store2_of ys (float_place (len + 1) row) acc') (float_place t row)
          ≡ time_product_of (take t (i.gs ++ (matrix2_of xs j ∷ [])))
      old t l =
          mat2-alike ys (store2_of ys (float_place (len + 1) row) acc') (float_place t row)
          (λ q b c. place-stays ys (float_place (len + 1) row) (flat acc') q (inl (omega arith)))
          ∙ i.each t (omega arith) ∙ ap time_product_of (sym (take-append-le t i.gs (matrix2_of xs j ∷ []) (omega (arith, i.count))))

-- the row of cut 0 was written before the loop
pub prefixes-after : (xs zs ys : List Float) (us : List ℕ) (k g s row r : ℕ) (m : Mat2) → matrix_floats ≤ row → row + row_floats ≤ record_floats
    → zs ≡ store2_of xs (float_place 0 row) m
    → Prefixes zs ys us k g s row r → Prefixes xs ys us k g s row r
prefixes-after xs zs ys us k g s row r m low high e p = record {
  only = row-only-trans row xs zs ys first p.only;
  few = p.few;
  long = p.long ∙ ap length tails;
  each = λ t l. p.each t l ∙ ap (λ l. prefix_of l t) tails;
}
  where
    first : RowOnly row xs zs
    first = subst (λ l. RowOnly row xs l) (sym e) (row-only-put row xs xs 0 m high (row-only-same row xs))

    tails : ahead s (todo zs us k g) ≡ ahead s (todo xs us k g)
    tails = ap (ahead s) (up_same (event_at xs us) (event_at zs us) k (g - k) (λ j a b. row-only-event row xs zs low first us j))
