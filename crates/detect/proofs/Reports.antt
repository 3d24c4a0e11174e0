-- What holds of every report: "blocks = Gaussian + bad + interactions", the number of operations, "no blocks: fraction 1.0", and the mode table's first n
-- entries are a permutation. Assumes nothing.
use mathlib.Core.Path.{◌≡◌, sym, ◌∙◌}
use mathlib.Core.List.{List, Memᴰ}
use Prim.Native.Nat.{ℕ, ◌+◌, ◌≤◌, ◌<◌}
use lib.ListN.{length, get_or}
use borrow.Author.Tests.{eq-eqb}
use Rattle.laws.specs.Bounds.{max_qubits}
use Rattle.gate.specs.Complex.{f1}
use Rattle.tape.specs.Good.{GoodGate}
use Rattle.tape.specs.declared.header.Header.{Header}
use Rattle.tape.specs.declared.gates.Gate.{Gate}
use Rattle.detect.specs.Report.{fraction_of, report_of}
use Rattle.detect.specs.Compile.{items_of, mode_of_wire, mode_of_qubit, tape_counts, reported_of, program_of}
use Rattle.detect.proofs.Sums.{Adds, counts-add}
use Rattle.detect.proofs.Entries.{table_at}
use Rattle.detect.proofs.Wires.{mode-below, modes-apart}
use Rattle.detect.proofs.Answering.{reported-operations}

module _ (h : Header) (gs : List Gate) where
  adds : Adds (tape_counts h gs) (length (items_of h gs).items)
  unfolding tape_counts
  adds = counts-add h.tolerance (mode_of_wire h gs) (items_of h gs).items

  -- "A report counts blocks = Gaussian + bad + interactions, over the item list"
  pub blocks-add : (reported_of h gs).blocks ≡ (reported_of h gs).gaussian + (reported_of h gs).bad + (reported_of h gs).interactions
  unfolding reported_of report_of
  blocks-add = adds.blocks

  pub blocks-items : (reported_of h gs).blocks ≡ length (items_of h gs).items
  unfolding reported_of report_of
  blocks-items = adds.items

  pub nonadjacent-bad : (reported_of h gs).nonadjacent ≤ (reported_of h gs).bad
  unfolding reported_of report_of
  nonadjacent-bad = adds.nonadjacent

  pub operations-told : (reported_of h gs).operations ≡ length (program_of h gs)
  operations-told = reported-operations h gs

  -- "No blocks: fraction 1.0"
  pub no_blocks : (reported_of h gs).blocks ≡ 0 → (reported_of h gs).fraction ≡ f1
  unfolding reported_of report_of fraction_of
  no_blocks e = rw (eq-eqb (tape_counts h gs).blocks 0 e)

  -- the mode table, for gates that pass the questions
  module _ (few : h.n ≤ max_qubits) (good : (x : Gate) → Memᴰ x gs → GoodGate h.n x) where
    pub mode-at : (q : ℕ) → q < h.n → get_or (reported_of h gs).modes q 0 ≡ mode_of_qubit h gs q
    unfolding reported_of report_of
    mode-at q l = table_at (mode_of_qubit h gs) h.n q l few

    pub mode-table-below : (q : ℕ) → q < h.n → get_or (reported_of h gs).modes q 0 < h.n
    mode-table-below q l = rw (mode-at q l) (mode-below h gs good q l)

    pub mode-table-apart : (q r : ℕ) → q < h.n → r < h.n → get_or (reported_of h gs).modes q 0 ≡ get_or (reported_of h gs).modes r 0 → q ≡ r
    mode-table-apart q r l k e = modes-apart h gs good q r l k (sym (mode-at q l) ∙ e ∙ mode-at r k)
