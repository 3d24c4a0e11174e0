-- Question 10 and the operations: the report's number of operations is that of the program, which is what is written; and a slice made zero. Assumes nothing.
use mathlib.Core.Path.{◌≡◌, refl, sym, ap, ◌∙◌}
use mathlib.Core.Bool.{Bool, true, false, cond}
use mathlib.Core.List.{List, [], ◌∷◌}
use Prim.Native.Nat.{ℕ, ◌+◌, ◌*◌, ◌≤◌}
use native.Mathlib.Omega.{arith}
use lib.ListN.{length, replicate}
use lib.Ieee.{Float}
use Rattle.std.proofs.lemmas.Bool.{cond_both}
use Rattle.laws.specs.Slices.{mapped_to, filled}
use Rattle.laws.specs.Bounds.{op_places}
use Rattle.tape.specs.declared.header.Header.{Header}
use Rattle.tape.specs.declared.gates.Gate.{Gate}
use Rattle.detect.specs.declared.report.Report.{Report}
use Rattle.detect.specs.Operation.{all_places, written}
use Rattle.detect.specs.Emit.{operations_of}
use Rattle.detect.specs.Records.{items_in, modes_in}
use Rattle.detect.specs.Report.{free_of, report_of}
use Rattle.detect.specs.Compile.{items_of, mode_of_wire, tape_counts, reported_of, program_of}
use Rattle.work.specs.Lent.{Lent}
use Rattle.detect.specs.Program.{Detected}
use Rattle.detect.specs.Lent.{WorkFor, Held, AllKept, all_operations, Detects}
use Rattle.detect.proofs.Placing.{length-all, placed-none}
use Rattle.detect.proofs.Emitting.{counts-operations, operations-same}

-- ---- a slice made zero

all-filled : {A : Type 0} (v : A) (l : List A) → replicate (length l) v ≡ filled (length l) v l
unfolding mapped_to
all-filled v [] = refl
all-filled v (x ∷ l) = ap (λ m. v ∷ m) (all-filled v l)

-- a fill of a slice that is as long as l
pub replicated : {A : Type 0} (v : A) (l : List A) (k : ℕ) → k ≡ length l → replicate k v ≡ filled (length l) v l
replicated v l k e = ap (λ k. replicate k v) e ∙ all-filled v l

-- ---- the report's numbers

written_none : (l : List Float) → written [] l ≡ l
unfolding all_places
written_none l = placed-none 0 l

module _ (h : Header) (gs : List Gate) where
  tally-operations : (tape_counts h gs).operations ≡ length (operations_of (mode_of_wire h gs) (items_of h gs).items)
  unfolding tape_counts
  tally-operations = counts-operations h.tolerance (mode_of_wire h gs) (items_of h gs).items

  no_program : free_of (tape_counts h gs) ≡ false → program_of h gs ≡ []
  unfolding program_of
  no_program e = rw e refl

  pub reported-free : (reported_of h gs).free ≡ free_of (tape_counts h gs)
  unfolding reported_of report_of
  reported-free = refl

  pub reported-operations : (reported_of h gs).operations ≡ length (program_of h gs)
  unfolding reported_of report_of program_of
  reported-operations = go (free_of (tape_counts h gs))
    where
      go : (t : Bool) → cond t (tape_counts h gs).operations 0 ≡ length (cond t (operations_of (mode_of_wire h gs) (items_of h gs).items) [])
      go true = tally-operations
      go false = refl

  -- ---- what is written

  module _ (g : ℕ) (ys : List Float) (vs : List ℕ) (r : Report) (d : Detected h gs g ys vs r) where
    emits : operations_of (modes_in vs) (items_in ys vs (g + h.n)) ≡ operations_of (mode_of_wire h gs) (items_of h gs).items
    emits = operations-same h.n (modes_in vs) (mode_of_wire h gs) d.modes (items_in ys vs (g + h.n)) d.below ∙ ap (operations_of (mode_of_wire h gs)) d.items

    free-is : r.free ≡ free_of (tape_counts h gs)
    free-is = ap (λ r. r.free) d.report ∙ reported-free

    number_is : r.operations ≡ length (program_of h gs)
    number_is = ap (λ r. r.operations) d.report ∙ reported-operations

    -- where nothing is bad the program is the items' operations
    program-is : r.free ≡ true → program_of h gs ≡ operations_of (modes_in vs) (items_in ys vs (g + h.n))
    unfolding program_of
    program-is e = rw (sym free-is ∙ e) (sym emits)

    long-enough : (o : ℕ) → op_places * r.operations ≤ o → op_places * length (program_of h gs) ≤ o
    long-enough o k = omega (arith, k, number_is)

    emits-fit : (o : ℕ) → op_places * r.operations ≤ o → r.free ≡ true → length (all_places (operations_of (modes_in vs) (items_in ys vs (g + h.n)))) ≤ o
    emits-fit o k e =
        omega (arith, long-enough o k, length-all (operations_of (modes_in vs) (items_in ys vs (g + h.n))), ap length (program-is e))

    writes : (l : List Float) → cond r.free (written (operations_of (modes_in vs) (items_in ys vs (g + h.n))) l) l ≡ written (program_of h gs) l
    writes l =
        cond_both r.free _ _ (λ z. z ≡ written (program_of h gs) l)
        (λ e. ap (λ os. written os l) (sym (program-is e))) (λ e. sym (ap (λ os. written os l) (no_program (sym free-is ∙ e)) ∙ written_none l))

  -- said of the lent work
  module _ (t : List ℕ) (w v : Lent) (r : Report) (is : WorkFor t h w) (d : Detects h gs w v r) where
    gates_same : v.gates ≡ w.gates
    gates_same = d.sizes.gates

    slots-same : v.slots ≡ h.n
    slots-same = d.sizes.slots ∙ is.slots

    pub emits-held : Held v
    emits-held = rw (gates_same, slots-same) d.detected.below

    pub emits-kept : r.free ≡ true → AllKept v
    emits-kept e = rw (gates_same, slots-same) (d.detected.kept e)

    pub emits-room : (o : ℕ) → op_places * r.operations ≤ o → r.free ≡ true → length (all_places (all_operations v)) ≤ o
    emits-room o k e = rw (gates_same, slots-same) (emits-fit w.gates v.floats v.marks r d.detected o k e)

    pub emits-written : (l : List Float) → cond r.free (written (all_operations v) l) l ≡ written (program_of h gs) l
    emits-written l = rw (gates_same, slots-same) (writes w.gates v.floats v.marks r d.detected l)
