-- The passes one after the other are the definition of fusing as a whole. Assumes nothing.
use mathlib.Core.Path.{◌≡◌, refl, sym, ap, ap₂, ◌∙◌}
use mathlib.Core.Bool.{Bool}
use mathlib.Core.List.{List, reverse, append-nil, reverse-reverse}
use Prim.Native.Nat.{ℕ, ◌-◌}
use native.Mathlib.Nat.{zero-add}
use native.Mathlib.Omega.{arith}
use lib.Ieee.{Float}
use Rattle.laws.specs.Views.{list_of, down_to, up_from, between}
use Rattle.laws.proofs.Views.{up_same, up-reverse, down-split}
use Rattle.work.specs.Lent.{Lent}
use Rattle.work.specs.Marks.{mark_at, Only}
use Rattle.work.specs.Columns.{lab_column, content_column}
use Rattle.tape.specs.Parse.{gates_of}
use Rattle.fuse.specs.Relabel.{Labelled, labelled, unlabelled}
use Rattle.fuse.specs.Slotted.{labelled_at, Relabelled}
use Rattle.fuse.specs.Fuse.{fused}
use Rattle.fuse.specs.Compress.{compressed}
use Rattle.fuse.specs.Layout.{Within, event_at, kinds, Passed}
use Rattle.fuse.specs.Lent.{Passes}
use Rattle.fuse.proofs.Listed.{listed_same}
use Rattle.resolve.specs.declared.settle.Tally.{Tally}
use Rattle.resolve.specs.Resolve.{resolved}
use Rattle.resolve.specs.Slots.{resolved_at, todo, fresh, AllDealt, Begun, Finished}
use Rattle.resolve.specs.Whole.{resolved_of, fused_of, fuse_of, fused_at, Whole}
use Rattle.resolve.specs.Lent.{Begins, DealsAll, Finishes, Fuses}

-- the newest first, turned round
down-reverse : {A : Type 0} (e : ℕ → A) (g : ℕ) → reverse (down_to e g) ≡ up_from e 0 g
unfolding down_to
down-reverse e g =
    let all : down_to e g ≡ between e 0 g = ap (down_to e) (sym (zero-add g)) ∙ down-split e 0 g ∙ append-nil (between e 0 g) in
    ap reverse (all ∙ sym (up-reverse e 0 g)) ∙ reverse-reverse (up_from e 0 g)

-- a pass leaves the slots
pub only_within : (us vs : List ℕ) (i g n : ℕ) → Only kinds us vs → Within us i g n → Within vs i g n
only_within us vs i g n o w = record {
  a = λ j l b. rw (o.same j 1 (omega arith) refl) (w.a j l b);
  b = λ j l b. rw (o.same j 2 (omega arith) refl) (w.b j l b);
  c = λ j l b. rw (o.same j 3 (omega arith) refl) (w.c j l b);
}

module _ (relabel : Bool) (tol : Float) (xs xs₁ xs₂ ys : List Float) (us us₁ us₂ us₃ us₄ vs : List ℕ) (g n swaps : ℕ) (t : Tally)
    (p : Passed fused xs xs₁ us us₁ g) (q : Passed compressed xs₁ xs₂ us₁ us₂ g) (b : Begun xs₂ us₂ us₃ g n)
    (d : AllDealt relabel tol xs₂ ys us₃ us₄ g n (fresh swaps) t) (f : Finished ys us₄ vs g n t) where
  events : todo xs₂ us₃ 0 g ≡ reverse (compressed (fused (down_to (event_at xs us) g)))
  events =
      let z : g - 0 ≡ g = omega arith in
      ap (up_from (event_at xs₂ us₃) 0) z
      ∙ up_same (event_at xs₂ us₂) (event_at xs₂ us₃) 0 g (λ j a l. b.events j (omega arith))
      ∙ sym (down-reverse (event_at xs₂ us₂) g) ∙ ap reverse (q.pass.list ∙ ap compressed p.pass.list)

  state : resolved_at ys us₄ g n g t ≡ resolved_of relabel tol n swaps (down_to (event_at xs us) g)
  unfolding resolved_of
  state = d.state ∙ ap₂ (resolved relabel tol) events (b.state swaps)

  read : fused_at ys vs g n t ≡ fused_of n (resolved_at ys us₄ g n g t)
  unfolding fused_at resolved_at
  read = λ z. record {
    items = f.items z;
    content = listed_same 0 n (λ s. mark_at us₄ s content_column) (λ s. mark_at vs s content_column) (λ s l. f.content s) z;
    swaps = t.swaps;
    tried = t.tried;
    angled = t.angled;
  }

  pub whole_is : Whole relabel tol xs ys us vs g n swaps t
  unfolding fuse_of
  whole_is = record {
    size = d.size ∙ q.size ∙ p.size;
    marks = f.size ∙ d.marks ∙ b.size ∙ q.only.size ∙ p.only.size;
    answer = read ∙ ap (fused_of n) state;
    lab = λ x. f.lab x ∙ d.lab x ∙ b.lab x ∙ q.only.same x 4 (omega arith) refl ∙ p.only.same x 4 (omega arith) refl;
  }

-- the same of the lent work
pub fuses : (relabel : Bool) (tol : Float) (w w₁ w₂ w₃ w₄ v : Lent) (swaps : ℕ) (t : Tally) → Passes fused w w₁ w.gates
    → Passes compressed w₁ w₂ w₁.gates → Begins w₂ w₃
    → DealsAll relabel tol w₃ w₄ (fresh swaps) t → Finishes w₄ v → Fuses relabel tol w v swaps t
fuses relabel tol w w₁ w₂ w₃ w₄ v swaps t p q b d f =
    let gates₂ = q.sizes.gates ∙ p.sizes.gates in
    let slots₂ = q.sizes.slots ∙ p.sizes.slots in
    let gates₃ = b.rest.gates ∙ gates₂ in
    let slots₃ = b.rest.slots ∙ slots₂ in
    let gates₄ = d.sizes.gates ∙ gates₃ in
    let slots₄ = d.sizes.slots ∙ slots₃ in
    record {
      sizes = record { gates = f.rest.gates ∙ gates₄; slots = f.rest.slots ∙ slots₄ };
      whole = rw f.rest.floats
          (whole_is relabel tol w.floats w₁.floats w₂.floats w₄.floats w.marks w₁.marks w₂.marks w₃.marks w₄.marks v.marks w.gates w.slots swaps t
          p.passed (rw p.sizes.gates at q.passed) (rw (gates₂, slots₂) at b.begun) (rw (b.rest.floats, gates₃, slots₃) at d.all)
          (rw (gates₄, slots₄) at f.finished t));
    }

-- ---- after relabelling

module _ (relabel : Bool) (tol : Float) (t : List ℕ) (xs xs₁ ys : List Float) (us us₁ vs : List ℕ) (g n r : ℕ) (a : Tally)
    (p : Relabelled relabel t xs xs₁ us us₁ g n r) (w : Whole relabel tol xs₁ ys us₁ vs g n r a) where
  -- the two together are 000's fusing of the tape's gates
  pub gates-fused : fused_at ys vs g n a ≡ (let s = labelled relabel (gates_of t) (unlabelled n) in fuse_of relabel tol n s.swaps s.events)
  unfolding labelled_at
  gates-fused = w.answer ∙ ap (λ (s : Labelled). fuse_of relabel tol n s.swaps s.events) p.state

  -- and the slots of the qubits are those that relabelling gave them
  pub gates-slots : list_of n (λ q. mark_at vs q lab_column) ≡ (labelled relabel (gates_of t) (unlabelled n)).lab
  unfolding labelled_at
  gates-slots = listed_same 0 n (λ q. mark_at us₁ q lab_column) (λ q. mark_at vs q lab_column) (λ q l. w.lab q) ∙ ap (λ (s : Labelled). s.lab) p.state
