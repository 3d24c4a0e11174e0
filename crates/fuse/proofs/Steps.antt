-- One gate put to the events before it: what the code leaves on each of its ways out is what the definition says; and a pass over all gates.
-- The search back is the law of `Views` on searches; what stays is by `Places`. Assumes nothing.
use mathlib.Core.Path.{◌≡◌, refl, sym, ap, ap₂, ◌∙◌}
use mathlib.Core.Logic.{◌≢◌}
use mathlib.Core.Bool.{Bool, true, false, ◌&&◌}
use mathlib.Core.List.{List, ◌∷◌, ◌++◌, map}
use Prim.Native.Nat.{ℕ, ◌+◌, ◌-◌, ◌<◌}
use native.Mathlib.Omega.{arith}
use lib.Dec.{eqb}
use lib.ListN.{length}
use lib.Ieee.{Float}
use borrow.Author.Tests.{eqb-true}
use Rattle.std.specs.Prelude.{Some, None}
use Rattle.laws.specs.Views.{down_to, between, seek, gap}
use Rattle.laws.proofs.Views.{down-more, down-split, down-same, between-map, between-same, seek-gap, from_is, until-is, pass-none, pass-more}
use Rattle.gate.specs.Matrix.{mul2_of, mat4_swap_qubits_of}
use Rattle.gate.specs.Lent.{flat}
use Rattle.gate.specs.declared.matrix.Mat2.{Mat2}
use Rattle.gate.specs.declared.matrix.Mat4.{Mat4}
use Rattle.gate.proofs.Stored.{length-row, length4}
use Rattle.work.specs.Rows.{record_at, FloatsAt}
use Rattle.work.specs.Marks.{mark_at, put_mark}
use Rattle.work.specs.Columns.{kind_column, a_column, b_column, gone_kind, one_kind, two_kind}
use Rattle.work.proofs.Records.{only_same, only-trans}
use Rattle.fuse.specs.Events.{Event, gone, one, two, meets, touches, clear}
use Rattle.fuse.specs.Fuse.{grown, joined, place, fuse_step}
use Rattle.fuse.specs.Compress.{diagonal2_of, press, compress_step}
use Rattle.fuse.specs.Passes.{PassLaws}
use Rattle.work.specs.Lent.{Lent, Whole, Has, marked, with_floats}
use Rattle.fuse.specs.Layout.{event_at, matrix2_of, matrix4_of, put_matrix2_of, put_matrix4_of, meets_at, touches_at, Found, kinds}
use Rattle.fuse.specs.Lent.{Clears, Joins, Steps, Passes}
use Rattle.fuse.proofs.Places.{one-at, two_at, meets-is, touches-is, kill-same, kind-other, kind-only, put4-other, put4-same, put2-other, put2-same}

-- ---- a gate that stays as it is

-- what an event that is no two-qubit gate does, and one that is no one-qubit gate
module _ (xs : List Float) (us : List ℕ) (t : ℕ) where
  place-other : (a b : ℕ) (m : Mat4) (new old all : List Event) → eqb (mark_at us t kind_column) two_kind ≡ false
      → place a b m new (event_at xs us t ∷ old) all ≡ two a b m ∷ all
  unfolding event_at
  place-other a b m new old all n = grind arith

  press-other : (s : ℕ) (m : Mat2) (new old all : List Event) → eqb (mark_at us t kind_column) one_kind ≡ false
      → press s m new (event_at xs us t ∷ old) all ≡ one s m ∷ all
  unfolding event_at
  press-other s m new old all n = grind arith

  fuse-other : (all : List Event) → eqb (mark_at us t kind_column) two_kind ≡ false → fuse_step (event_at xs us t) all ≡ event_at xs us t ∷ all
  unfolding event_at
  fuse-other all n = grind arith

  compress-other : (all : List Event) → eqb (mark_at us t kind_column) one_kind ≡ false → compress_step (event_at xs us t) all ≡ event_at xs us t ∷ all
  unfolding event_at
  compress-other all n = grind arith

module _ (w : Lent) (i : ℕ) where
  kept : (f : Event → List Event → List Event)
      → f (event_at w.floats w.marks i) (down_to (event_at w.floats w.marks) i) ≡ event_at w.floats w.marks i ∷ down_to (event_at w.floats w.marks) i
      → Steps f w w i
  kept f h = record {
    sizes = record { gates = refl; slots = refl };
    stepped = record {
      size = refl;
      only = only_same kinds w.marks;
      step = record { list = down-more (event_at w.floats w.marks) i ∙ sym h; later = λ j l. refl };
    };
  }

  pub fuse-skip : eqb (mark_at w.marks i kind_column) two_kind ≡ false → Steps fuse_step w w i
  fuse-skip n = kept fuse_step (fuse-other w.floats w.marks i _ n)

  pub compress-skip : eqb (mark_at w.marks i kind_column) one_kind ≡ false → Steps compress_step w w i
  compress-skip n = kept compress_step (compress-other w.floats w.marks i _ n)

pub ruleset skips = (fuse-skip, compress-skip)

-- ---- the list after an older event took event i

taken : (e f : ℕ → Event) (t r i : ℕ) (x : Event) (new : List Event) → i ≡ t + 1 + r → f i ≡ gone → between f (t + 1) r ≡ new → f t ≡ x
    → ((j : ℕ) → j < t → f j ≡ e j) → down_to f (i + 1) ≡ gone ∷ (new ++ (x ∷ down_to e t))
taken e f t r i x new h g n k b =
    let low : down_to f (t + 1) ≡ x ∷ down_to e t = down-more f t ∙ ap₂ ◌∷◌ k (down-same e f t b) in
    down-more f i ∙ ap₂ ◌∷◌ g (ap (down_to f) h ∙ down-split f (t + 1) r ∙ ap₂ ◌++◌ n low)

-- ---- a two-qubit gate

module _ (w : Lent) (i a b : ℕ) (is : mark_at w.marks i kind_column ≡ two_kind)
    (ha : a ≡ mark_at w.marks i a_column) (hb : b ≡ mark_at w.marks i b_column) where
  abbrev xs : List Float
  xs = w.floats

  abbrev us : List ℕ
  us = w.marks

  abbrev e : ℕ → Event
  e = event_at xs us

  abbrev m : Mat4
  m = matrix4_of xs i

  abbrev q : ℕ → Bool
  q = meets_at us a b

  two-i : e i ≡ two a b m
  two-i = two_at xs us i is ∙ sym (ap₂ (λ x y. two x y m) ha hb)

  placed : (s : ℕ) → seek q i ≡ s → fuse_step (e i) (down_to e i) ≡ place a b m (between e s (gap q i)) (down_to e s) (down_to e i)
  placed s h = rw (two-i, from_is (meets a b) q e (meets-is xs us a b) i, until-is (meets a b) q e (meets-is xs us a b) i, h)

  stays : fuse_step (e i) (down_to e i) ≡ two a b m ∷ down_to e i → Steps fuse_step w w i
  stays h = kept w i fuse_step (h ∙ ap (λ x. x ∷ down_to e i) (sym two-i))

  -- there is no block on its slots
  pub grow-none : Found q i None → Steps fuse_step w w i
  unfolding down_to
  grow-none h = stays (placed 0 (sym h.is))

  module _ (t : ℕ) (at : Found q i (Some t)) where
    found : fuse_step (e i) (down_to e i) ≡ place a b m (between e (t + 1) (gap q i)) (e t ∷ down_to e t) (down_to e i)
    found = placed (t + 1) (sym at.is) ∙ ap (λ l. place a b m (between e (t + 1) (gap q i)) l (down_to e i)) (down-more e t)

    -- the newest block is opaque
    pub grow-opaque : eqb (mark_at us t kind_column) two_kind ≡ false → Steps fuse_step w w i
    grow-opaque n = stays (found ∙ place-other xs us t _ _ _ _ _ _ n)

    module _ (c d : ℕ) (two-t : eqb (mark_at us t kind_column) two_kind ≡ true) (hc : c ≡ mark_at us t a_column) (hd : d ≡ mark_at us t b_column) where
      kind-t : mark_at us t kind_column ≡ two_kind
      kind-t = eqb-true _ _ two-t

      block-t : e t ≡ two c d (matrix4_of xs t)
      block-t = two_at xs us t kind-t ∙ sym (ap₂ (λ x y. two x y (matrix4_of xs t)) hc hd)

      -- it is on one of the slots only
      pub grow-apart : (eqb c a && eqb d b) ≡ false → (eqb c b && eqb d a) ≡ false → Steps fuse_step w w i
      grow-apart h k = stays (found ∙ rw (block-t, h, k))

      -- it takes the gate, whose matrix in its orientation is m'
      joins : (m' : Mat4) (v : Lent) → Whole w → Has w i → Joins w v t i c d m'
          → place a b m (between e (t + 1) (gap q i)) (two c d (matrix4_of xs t) ∷ down_to e t) (down_to e i)
          ≡ joined c d m' (matrix4_of xs t) (between e (t + 1) (gap q i)) (down_to e t)
          → Steps fuse_step w v i
      joins m' v whole there j h =
          let k = j.joined in
          let ys = v.floats in
          let g = gap q i in
          let l : FloatsAt xs t = omega (arith, whole.floats, at.within, there) in
          let sg : t + 1 + g ≡ i = ap (λ n. n + gap q i) at.is ∙ seek-gap q i in
          let eg : i - (t + 1) ≡ g = omega arith in
          let f = event_at ys v.marks in
          let core : ℕ → Mat4 = λ n. grown c d m' (matrix4_of xs t) (between e (t + 1) n) in
          let ys-is : ys ≡ put_matrix4_of xs t (core g) = k.floats ∙ ap (λ n. put_matrix4_of xs t (core n)) eg in
          let other : (j : ℕ) → j ≢ t → event_at ys us j ≡ e j = λ j p. ap (λ zs. event_at zs us j) ys-is ∙ put4-other xs us t (core g) j p in
          let new : between f (t + 1) g ≡ map (clear c d) (between e (t + 1) g) =
          between-map e f (clear c d) (t + 1) g (λ j p r. k.inside ys j p (omega arith) ∙ ap (clear c d) (other j (λ z. omega arith))) in
          let here : f t ≡ two c d (core g) =
          k.below ys t (omega arith) ∙ ap (λ zs. event_at zs us t) ys-is ∙ put4-same xs us t (core g) l kind-t ∙ sym (ap₂ (λ x y. two x y (core g)) hc hd) in
          let low : (j : ℕ) → j < t → f j ≡ e j = λ j p. k.below ys j (omega arith) ∙ other j (λ z. omega arith) in
          record {
            sizes = j.sizes;
            stepped = record {
              size = ap length ys-is ∙ length4 xs (record_at t) (core g);
              only = k.only;
              step = record {
                list = taken e f t g i (two c d (core g)) (map (clear c d) (between e (t + 1) g)) (sym sg) (k.here ys) new here low
                    ∙ sym (found ∙ ap (λ x. place a b m (between e (t + 1) g) (x ∷ down_to e t) (down_to e i)) block-t ∙ h);
                later = λ j p. k.above ys j p ∙ other j (λ z. omega arith);
              };
            };
          }

-- it takes the gate as it stands, or turned
module _ {w v : Lent} {t i c d : ℕ} {m : Mat4} (new : Joins w v t i c d m) (a b : ℕ) (found : Found (meets_at w.marks a b) i (Some t))
    (is : mark_at w.marks i kind_column ≡ two_kind) (ha : a ≡ mark_at w.marks i a_column) (hb : b ≡ mark_at w.marks i b_column)
    (two-t : eqb (mark_at w.marks t kind_column) two_kind ≡ true) (hc : c ≡ mark_at w.marks t a_column) (hd : d ≡ mark_at w.marks t b_column)
    (whole : Whole w) (there : Has w i) where
  pub grow-straight : m ≡ matrix4_of w.floats i → (eqb c a && eqb d b) ≡ true → Steps fuse_step w v i
  grow-straight e h = joins w i a b is ha hb t found c d two-t hc hd (matrix4_of w.floats i) v whole there (rw e at new) (rw h)

  pub grow-turned : (m₀ : Mat4) → m₀ ≡ matrix4_of w.floats i → m ≡ mat4_swap_qubits_of m₀ → (eqb c a && eqb d b) ≡ false → (eqb c b && eqb d a) ≡ true
      → Steps fuse_step w v i
  grow-turned m₀ e s n h =
      joins w i a b is ha hb t found c d two-t hc hd (mat4_swap_qubits_of (matrix4_of w.floats i)) v whole there (rw (s, e) at new) (rw (n, h))

pub ruleset grows = (grow-none, grow-opaque, grow-apart)

-- what `join` leaves, from what its calls say
pub joined_is : (w : Lent) {w' v : Lent} {t i c d : ℕ} (m : Mat4) → Clears w' v (t + 1) i c d
    → w' ≡ with_floats w (put_matrix4_of w.floats t (grown c d m (matrix4_of w.floats t) (between (event_at w.floats w.marks) (t + 1) (i - (t + 1)))))
    → t < i → Has w i → Whole w → Joins w (marked v i kind_column gone_kind) t i c d m
joined_is w {w'} {v} {t} {i} {c} {d} m clears e h l whole =
    let c = rw e at clears in
    let cl = c.cleared in
    let vs = v.marks in
    record {
      sizes = record { gates = c.rest.gates; slots = c.rest.slots };
      joined = record {
        floats = c.rest.floats;
        only = kind-only w.marks vs i 0 cl.only;
        inside = λ zs j a b. kind-other zs vs i 0 j (λ e. omega arith) ∙ cl.inside zs j a b;
        below = λ zs j a. kind-other zs vs i 0 j (λ e. omega arith) ∙ cl.below zs j a;
        here = λ zs. kill-same zs vs i (omega (arith, cl.only.size, whole.marks));
        above = λ zs j a. kind-other zs vs i 0 j (λ e. omega arith) ∙ cl.above zs j (omega arith);
      };
    }

-- ---- a one-qubit gate, when runs of diagonal ones are made one

module _ (w : Lent) (i s : ℕ) (is : mark_at w.marks i kind_column ≡ one_kind) (hs : s ≡ mark_at w.marks i a_column) where
  abbrev xs₁ : List Float
  xs₁ = w.floats

  abbrev us₁ : List ℕ
  us₁ = w.marks

  abbrev e₁ : ℕ → Event
  e₁ = event_at xs₁ us₁

  abbrev m₁ : Mat2
  m₁ = matrix2_of xs₁ i

  abbrev q₁ : ℕ → Bool
  q₁ = touches_at us₁ s

  one-i : e₁ i ≡ one s m₁
  one-i = one-at xs₁ us₁ i is ∙ sym (ap (λ x. one x m₁) hs)

  pressed : (k : ℕ) → seek q₁ i ≡ k → compress_step (e₁ i) (down_to e₁ i) ≡ press s m₁ (between e₁ k (gap q₁ i)) (down_to e₁ k) (down_to e₁ i)
  pressed k h = rw (one-i, from_is (touches s) q₁ e₁ (touches-is xs₁ us₁ s) i, until-is (touches s) q₁ e₁ (touches-is xs₁ us₁ s) i, h)

  stays₁ : compress_step (e₁ i) (down_to e₁ i) ≡ one s m₁ ∷ down_to e₁ i → Steps compress_step w w i
  stays₁ h = kept w i compress_step (h ∙ ap (λ x. x ∷ down_to e₁ i) (sym one-i))

  -- nothing is on its slot
  pub press-none : Found q₁ i None → Steps compress_step w w i
  unfolding down_to
  press-none h = stays₁ (pressed 0 (sym h.is))

  module _ (t : ℕ) (at : Found q₁ i (Some t)) where
    found₁ : compress_step (e₁ i) (down_to e₁ i) ≡ press s m₁ (between e₁ (t + 1) (gap q₁ i)) (e₁ t ∷ down_to e₁ t) (down_to e₁ i)
    found₁ = pressed (t + 1) (sym at.is) ∙ ap (λ l. press s m₁ (between e₁ (t + 1) (gap q₁ i)) l (down_to e₁ i)) (down-more e₁ t)

    -- it is the first after a block
    pub press-first : eqb (mark_at us₁ t kind_column) one_kind ≡ false → Steps compress_step w w i
    press-first n = stays₁ (found₁ ∙ press-other xs₁ us₁ t _ _ _ _ _ n)

    module _ (one-t : eqb (mark_at us₁ t kind_column) one_kind ≡ true) where
      kind-t₁ : mark_at us₁ t kind_column ≡ one_kind
      kind-t₁ = eqb-true _ _ one-t

      -- one of the two is not diagonal
      pub press-apart : (diagonal2_of (matrix2_of xs₁ t) && diagonal2_of m₁) ≡ false → Steps compress_step w w i
      press-apart h = stays₁ (found₁ ∙ rw (one-at xs₁ us₁ t kind-t₁, h))

      pub press-takes : Whole w → Has w i → (diagonal2_of (matrix2_of xs₁ t) && diagonal2_of m₁) ≡ true
          → Steps compress_step w (marked (with_floats w (put_matrix2_of xs₁ t (mul2_of m₁ (matrix2_of xs₁ t)))) i kind_column gone_kind) i
      press-takes whole there h =
          let g = gap q₁ i in
          let l : FloatsAt xs₁ t = omega (arith, whole.floats, at.within, there) in
          let sg : t + 1 + g ≡ i = ap (λ n. n + gap q₁ i) at.is ∙ seek-gap q₁ i in
          let x = mul2_of m₁ (matrix2_of xs₁ t) in
          let v = mark_at us₁ t 1 in
          let ys = put_matrix2_of xs₁ t x in
          let f = event_at ys (put_mark us₁ i 0 0) in
          let other : (j : ℕ) → j ≢ i → j ≢ t → f j ≡ e₁ j = λ j p r. kind-other ys us₁ i 0 j p ∙ put2-other xs₁ us₁ t x j r in
          let new : between f (t + 1) g ≡ between e₁ (t + 1) g = between-same e₁ f (t + 1) g (λ j p r. other j (λ z. omega arith) (λ z. omega arith)) in
          let here : f t ≡ one v x = kind-other ys us₁ i 0 t (λ z. omega arith) ∙ put2-same xs₁ us₁ t x l kind-t₁ in
          record {
            sizes = record { gates = refl; slots = refl };
            stepped = record {
              size = length-row xs₁ (record_at t) (flat x);
              only = kind-only us₁ us₁ i 0 (only_same kinds us₁);
              step = record {
                list = taken e₁ f t g i (one v x) (between e₁ (t + 1) g) (sym sg) (kill-same ys us₁ i (omega (arith, whole.marks, there)))
                    new here (λ j p. other j (λ z. omega arith) (λ z. omega arith))
                    ∙ sym (found₁ ∙ ap (λ z. press s m₁ (between e₁ (t + 1) g) (z ∷ down_to e₁ t) (down_to e₁ i)) (one-at xs₁ us₁ t kind-t₁) ∙ rw h);
                later = λ j p. other j (λ z. omega arith) (λ z. omega arith);
              };
            };
          }

pub ruleset presses = (press-none, press-first, press-apart, press-takes)

-- ---- a pass over all gates

module _ {f : Event → List Event → List Event} {F : List Event → List Event} (laws : PassLaws f F) where
  pub passes_none : (w : Lent) → Passes F w w 0
  passes_none w = record {
    sizes = record { gates = refl; slots = refl };
    passed = record { size = refl; only = only_same kinds w.marks; pass = pass-none f F laws.none (event_at w.floats w.marks) };
  }

  pub passes-more : {w v u : Lent} {i : ℕ} → Passes F w v i → Steps f v u i → Passes F w u (i + 1)
  passes-more {w} {v} {u} {i} was step =
      let p = was.passed in
      let s = step.stepped in
      record {
        sizes = record { gates = step.sizes.gates ∙ was.sizes.gates; slots = step.sizes.slots ∙ was.sizes.slots };
        passed = record {
          size = s.size ∙ p.size;
          only = only-trans kinds w.marks v.marks u.marks p.only s.only;
          pass = pass-more f F laws.more (event_at w.floats w.marks) (event_at v.floats v.marks) (event_at u.floats u.marks) i p.pass s.step;
        };
      }
