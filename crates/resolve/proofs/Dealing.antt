-- An event dealt with, as the definition's step on the event that its record holds; and one event after the other. Assumes nothing.
use mathlib.Core.Path.{◌≡◌, refl, sym, ap, ap₂, subst, ◌∙◌}
use mathlib.Core.Logic.{inl, ◌≢◌}
use mathlib.Core.Bool.{Bool, true, false}
use mathlib.Core.List.{List, []}
use Prim.Native.Nat.{ℕ, ◌+◌, ◌*◌, ◌-◌, ◌≤◌, ◌<◌}
use native.Mathlib.Omega.{arith}
use lib.Dec.{eqb}
use lib.ListN.{length, get_or}
use lib.Ieee.{Float, nan}
use Rattle.std.specs.Int.{from_bool}
use borrow.Author.Tests.{eqb-true, eqb-false}
use Rattle.laws.specs.Views.{up_from}
use Rattle.laws.proofs.Views.{get_or-list_of, up-head, up_same}
use Rattle.gate.specs.Matrix.{mul4_of, kron_of}
use Rattle.gate.specs.declared.matrix.Mat4.{Mat4}
use Rattle.gate.proofs.Stored.{mat2-alike}
use Rattle.work.specs.Sizes.{record_marks}
use Rattle.work.specs.Rows.{record_at, float_place, row_floats, first_tail, second_tail}
use Rattle.work.specs.Marks.{mark_at, put_mark}
use Rattle.work.specs.Columns.{kind_column, a_column, b_column, c_column, lab_column, gone_kind, one_kind, two_kind, three_kind}
use Rattle.work.proofs.Records.{put-here}
use Rattle.fuse.specs.Events.{Event, gone, one, two, three}
use Rattle.fuse.specs.Layout.{matrix2_of, matrix4_of, event_at, Within}
use Rattle.work.specs.Lent.{Lent, Space, Whole, marked}
use Rattle.fuse.specs.Lent.{SlotsFrom}
use Rattle.fuse.proofs.Places.{one-at, two_at, three-at, gone_at}
use Rattle.resolve.specs.Choose.{Search}
use Rattle.resolve.specs.declared.settle.Tally.{Tally}
use Rattle.resolve.specs.Cuts.{ahead, cuts, prefix_of}
use Rattle.resolve.specs.Choose.{offers, choose_of}
use Rattle.resolve.specs.Resolve.{none, opened, Resolved, passed, settled, closed, candidates, chosen, resolve_step, resolved}
use Rattle.resolve.specs.Slots.{rest_at, item_at, resolved_at, todo, first_row, second_row, RowOnly, Prefixes, Moved, counted, max_candidates, Dealt, AllDealt}
use Rattle.resolve.specs.Lent.{PassesOne, ClosesThree, Deals}
use Rattle.resolve.proofs.Counts.{offers-many, pairs-few}
use Rattle.resolve.proofs.Choosing.{choose-same}
use Rattle.resolve.proofs.Tails.{row-only-event}
use Rattle.resolve.proofs.Records.{marks-same, marks-put, floats_same}
use Rattle.resolve.proofs.States.{scratch-state, own-none, own-event, own-within}

rest-is : (xs : List Float) (us : List ℕ) (g n i s : ℕ) (t : Tally) → s < n → get_or (resolved_at xs us g n i t).rests s none ≡ rest_at xs us g s
unfolding resolved_at
rest-is xs us g n i s t l = get_or-list_of n (rest_at xs us g) s none l

gone-item : (xs : List Float) (us : List ℕ) (i : ℕ) → record_marks * i < length us → item_at xs (put_mark us i kind_column gone_kind) i ≡ []
unfolding item_at
gone-item xs us i h = rw (put-here us i 0 0 (omega arith))

-- ---- a step that is known by the event

module _ (relabel : Bool) (tol : Float) (xs ys : List Float) (us vs : List ℕ) (g n i : ℕ) (t t' : Tally) where
  step : (e : Event) → event_at xs us i ≡ e → Moved (resolve_step relabel tol e (todo xs us (i + 1) g)) xs ys us vs g n i t t'
      → Moved (resolve_step relabel tol (event_at xs us i) (todo xs us (i + 1) g)) xs ys us vs g n i t t'
  step e p m = subst (λ e. Moved (resolve_step relabel tol e (todo xs us (i + 1) g)) xs ys us vs g n i t t') (sym p) m

  -- no block: the counts stay
  quiet : t' ≡ t → Moved (resolve_step relabel tol (event_at xs us i) (todo xs us (i + 1) g)) xs ys us vs g n i t t' → Dealt relabel tol xs ys us vs g n i t t'
  quiet e m = record { moved = m; swaps = omega (arith, ap (λ (t : Tally). t.swaps) e); tried = omega (arith, ap (λ (t : Tally). t.tried) e) }

module _ (relabel : Bool) (tol : Float) (xs ys : List Float) (us vs : List ℕ) (g n i : ℕ) (t : Tally) where
  one-dealt : mark_at us i kind_column ≡ one_kind → Moved (passed (mark_at us i a_column) (matrix2_of xs i)) xs ys us vs g n i t t
      → Dealt relabel tol xs ys us vs g n i t t
  one-dealt k m = quiet relabel tol xs ys us vs g n i t t refl (step relabel tol xs ys us vs g n i t t (one (mark_at us i a_column) (matrix2_of xs i)) (one-at xs us i k) m)

  three-dealt : mark_at us i kind_column ≡ three_kind
      → Moved (closed (mark_at us i a_column) (mark_at us i b_column) (mark_at us i c_column)) xs ys us vs g n i t t
      → Dealt relabel tol xs ys us vs g n i t t
  three-dealt k m =
      quiet relabel tol xs ys us vs g n i t t refl
      (step relabel tol xs ys us vs g n i t t (three (mark_at us i a_column) (mark_at us i b_column) (mark_at us i c_column)) (three-at xs us i k) m)

gone-dealt : (relabel : Bool) (tol : Float) (xs : List Float) (us : List ℕ) (g n i : ℕ) (t : Tally) → Space xs us g n → i < g → Within us i g n
    → mark_at us i kind_column ≢ one_kind → mark_at us i kind_column ≢ two_kind → mark_at us i kind_column ≢ three_kind
    → Dealt relabel tol xs xs us (put_mark us i kind_column gone_kind) g n i t t
gone-dealt relabel tol xs us g n i t room h w p q r =
    let vs = put_mark us i 0 0 in
    let f = floats_same i xs in
    let o = marks-put i us us 0 0 (omega arith) (marks-same i us) in
    quiet relabel tol xs xs us vs g n i t t refl
    (step relabel tol xs xs us vs g n i t t gone (gone_at xs us i p q r)
    (record {
      size = refl;
      marks = o.size;
      state = own-none g n i xs xs us vs f o h t no_item;
      later = λ j a b. own-event g n i xs xs us vs f o h j a;
      lab = o.lab;
      within = own-within g n i xs xs us vs f o h w;
    }))
  where
    no_item : item_at xs (put_mark us i 0 0) i ≡ []
    no_item = gone-item xs us i (omega (arith, room.marks))

-- ---- the same of the lent work, by the code's tests

module _ (relabel : Bool) (tol : Float) (w v : Lent) (i : ℕ) (t : Tally) where
  pub one-deals : PassesOne w v i → eqb (mark_at w.marks i kind_column) one_kind ≡ true → Deals relabel tol w v i t t
  one-deals p e = record {
    sizes = p.sizes;
    dealt = one-dealt relabel tol w.floats v.floats w.marks v.marks w.gates w.slots i t (eqb-true _ _ e) (p.passed t);
  }

  pub three-deals : ClosesThree w v i → eqb (mark_at w.marks i kind_column) three_kind ≡ true → Deals relabel tol w v i t t
  three-deals p e = record {
    sizes = record { gates = p.rest.gates; slots = p.rest.slots };
    dealt = rw p.rest.floats (three-dealt relabel tol w.floats w.floats w.marks v.marks w.gates w.slots i t (eqb-true _ _ e) (p.closed t));
  }

  pub gone-deals : v ≡ marked w i kind_column gone_kind → Whole w → i < w.gates → SlotsFrom w i → eqb (mark_at w.marks i kind_column) one_kind ≡ false
      → eqb (mark_at w.marks i kind_column) two_kind ≡ false → eqb (mark_at w.marks i kind_column) three_kind ≡ false → Deals relabel tol w v i t t
  gone-deals e whole h s p q r =
      rw e
      (record {
        sizes = record { gates = refl; slots = refl };
        dealt = gone-dealt relabel tol w.floats w.marks w.gates w.slots i t whole h s (eqb-false _ _ p) (eqb-false _ _ q) (eqb-false _ _ r);
      })

-- ---- a block

-- the rows of the first tail are not those of the second
first-stays : (xs ys : List Float) (t : ℕ) → RowOnly second_tail xs ys → first_row ys t ≡ first_row xs t
first-stays xs ys t o = mat2-alike xs ys (float_place t first_tail) (λ q a b. at q a b)
  where
    at : (q : ℕ) → float_place t first_tail ≤ q → q < float_place t first_tail + row_floats → get_or ys q nan ≡ get_or xs q nan
    at q a b =
        let e : q ≡ record_at t + (q - record_at t) = omega arith in
        ap (λ p. get_or ys p nan) e ∙ o.same t (q - record_at t) (omega arith) (inl (omega arith)) ∙ ap (λ p. get_or xs p nan) (sym e)

-- a block renames once or not at all
swaps-few : (swap : Bool) (k : ℕ) → k + from_bool swap ≤ k + 1
swaps-few true k = omega arith
swaps-few false k = omega arith

module _ (relabel : Bool) (tol : Float) (xs xs₁ xs₂ : List Float) (us : List ℕ) (g n i la lb : ℕ) (t : Tally)
    (p : Prefixes xs xs₁ us (i + 1) g (mark_at us i a_column) first_tail la) (q : Prefixes xs₁ xs₂ us (i + 1) g (mark_at us i b_column) second_tail lb)
    (sa : mark_at us i a_column < n) (sb : mark_at us i b_column < n) (two-i : mark_at us i kind_column ≡ two_kind) where
  abbrev a : ℕ
  a = mark_at us i a_column

  abbrev b : ℕ
  b = mark_at us i b_column

  abbrev es : List Event
  es = todo xs us (i + 1) g

  abbrev r : Resolved
  r = resolved_at xs us g n i t

  same-event : (j : ℕ) → event_at xs₂ us j ≡ event_at xs us j
  same-event j = row-only-event second_tail xs₁ xs₂ (omega arith) q.only us j ∙ row-only-event first_tail xs xs₁ (omega arith) p.only us j

  same-state : resolved_at xs₂ us g n i t ≡ r
  same-state = scratch-state second_tail xs₁ xs₂ us g n i t (omega arith) q.only ∙ scratch-state first_tail xs xs₁ us g n i t (omega arith) p.only

  second-tail : ahead b (todo xs₁ us (i + 1) g) ≡ ahead b es
  second-tail = ap (ahead b) (up_same (event_at xs us) (event_at xs₁ us) (i + 1) (g - (i + 1))
      (λ j x y. row-only-event first_tail xs xs₁ (omega arith) p.only us j))

  lb-is : lb ≡ length (ahead b es)
  lb-is = q.long ∙ ap length second-tail

  tried_here : length (cuts la) * length (cuts lb) ≡ candidates a b es
  unfolding candidates
  tried_here = sym (offers-many la lb) ∙ ap₂ (λ x y. length (offers x y)) p.long lb-is

  pub block-chosen : (base : Mat4) (s : Search) → base ≡ mul4_of (matrix4_of xs i) (kron_of (opened (rest_at xs us g a)) (opened (rest_at xs us g b)))
      → s ≡ choose_of relabel tol base (first_row xs₂) (second_row xs₂) la lb → s ≡ chosen relabel tol a b (matrix4_of xs i) es r
  unfolding chosen
  block-chosen base s eb e =
      e
      ∙ choose-same relabel tol base (prefix_of (ahead a es)) (prefix_of (ahead b es)) (first_row xs₂) (second_row xs₂) la lb
      (λ t l. first-stays xs₁ xs₂ t q.only ∙ p.each t l) (λ t l. q.each t l ∙ ap (λ gs. prefix_of gs t) second-tail)
      ∙ ap₂ (choose_of relabel tol base (prefix_of (ahead a es)) (prefix_of (ahead b es))) p.long lb-is
      ∙ ap (λ u. choose_of relabel tol u (prefix_of (ahead a es)) (prefix_of (ahead b es)) (length (ahead a es)) (length (ahead b es)))
      (eb ∙ ap₂ (λ x y. mul4_of (matrix4_of xs i) (kron_of (opened x) (opened y))) (sym (rest-is xs us g n i a t sa)) (sym (rest-is xs us g n i b t sb)))

  pub block-dealt : (ys : List Float) (vs : List ℕ) (s : Search) (tried : ℕ) → tried ≡ length (cuts la) * length (cuts lb)
      → s ≡ chosen relabel tol a b (matrix4_of xs i) es r
      → Moved (settled a b tried s.best s.angled) xs₂ ys us vs g n i t (counted s.best.class.swap tried s.angled t)
      → Dealt relabel tol xs ys us vs g n i t (counted s.best.class.swap tried s.angled t)
  block-dealt ys vs s tried et e m = record {
    moved = step relabel tol xs ys us vs g n i t (counted s.best.class.swap tried s.angled t) (two a b (matrix4_of xs i)) (two_at xs us i two-i) (record {
      size = m.size ∙ q.only.size ∙ p.only.size;
      marks = m.marks;
      state = m.state ∙ ap (settled a b tried s.best s.angled) same-state
          ∙ ap₂ (λ k (s : Search). settled a b k s.best s.angled r) (et ∙ tried_here) e;
      later = λ j x y. m.later j x y ∙ same-event j;
      lab = m.lab;
      within = m.within;
    });
    swaps = swaps-few s.best.class.swap t.swaps;
    tried = omega (arith, et, pairs-few la lb);
  }

-- ---- one event after the other

module _ (relabel : Bool) (tol : Float) (xs₀ : List Float) (us₀ : List ℕ) (g n : ℕ) (t₀ : Tally) where
  pub record Dealing (xs : List Float) (us : List ℕ) (i : ℕ) (t : Tally) : Type 0 where
    pub up : i ≤ g
    pub size : length xs ≡ length xs₀
    pub marks : length us ≡ length us₀
    pub within : Within us i g n
    pub swaps : t.swaps ≤ t₀.swaps + i
    pub tried : t.tried ≤ t₀.tried + max_candidates * i
    pub lab : (q : ℕ) → mark_at us q lab_column ≡ mark_at us₀ q lab_column
    pub rest : resolved relabel tol (todo xs us i g) (resolved_at xs us g n i t) ≡ resolved relabel tol (todo xs₀ us₀ 0 g) (resolved_at xs₀ us₀ g n 0 t₀)

  pub dealing-none : Within us₀ 0 g n → Dealing xs₀ us₀ 0 t₀
  dealing-none w = record { up = omega arith; size = refl; marks = refl; within = w; swaps = omega arith; tried = omega arith; lab = λ q. refl; rest = refl }

  pub dealing-more : (xs ys : List Float) (us vs : List ℕ) (i : ℕ) (t t' : Tally) → i < g → Dealing xs us i t → Dealt relabel tol xs ys us vs g n i t t'
      → Dealing ys vs (i + 1) t'
  unfolding resolved
  dealing-more xs ys us vs i t t' h d e = record {
    up = omega arith;
    size = e.moved.size ∙ d.size;
    marks = e.moved.marks ∙ d.marks;
    within = e.moved.within;
    swaps = omega (arith, e.swaps, d.swaps);
    tried = omega (arith, e.tried, d.tried);
    lab = λ q. e.moved.lab q ∙ d.lab q;
    rest = ap₂ (resolved relabel tol) (up_same (event_at xs us) (event_at ys vs) (i + 1) (g - (i + 1)) (λ j a b. e.moved.later j (omega arith) (omega arith))) e.moved.state
        ∙ sym (ap (λ l. resolved relabel tol l (resolved_at xs us g n i t)) (up-head (event_at xs us) i g h)) ∙ d.rest;
  }

  pub dealing-end : (xs : List Float) (us : List ℕ) (i : ℕ) (t : Tally) → g ≤ i → Dealing xs us i t → AllDealt relabel tol xs₀ xs us₀ us g n t₀ t
  unfolding resolved up_from
  dealing-end xs us i t h d =
      let e : i ≡ g = omega (arith, d.up) in
      let z : g - i ≡ 0 = omega arith in
      record {
        size = d.size;
        marks = d.marks;
        lab = d.lab;
        state = ap (λ i. resolved_at xs us g n i t) (sym e) ∙ sym (ap (λ k. resolved relabel tol (up_from (event_at xs us) i k) (resolved_at xs us g n i t)) z) ∙ d.rest;
      }

pub ruleset dealings = (dealing-none, dealing-more, dealing-end)
