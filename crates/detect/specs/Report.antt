-- The report (000, `GaussianReport`), and its tables: order, path starts and modes of the qubits, of which the first n entries count. Assumes nothing.
-- A public promise rests on this.
use Rattle.std.specs.Prelude.{Bool, false, cond, ◌&&◌, List, ℕ, eqb, ltb, Float}
use Rattle.std.specs.Float.{binary64}
use Rattle.std.specs.Float.Ieee.{div}
use Rattle.laws.specs.Views.{list_of}
use Rattle.laws.specs.Bounds.{max_qubits}
use Rattle.gate.specs.Complex.{f0, f1}
use Rattle.order.specs.declared.choice.Ordering.{Ordering}
use Rattle.detect.specs.declared.count.Counts.{Counts}
use Rattle.detect.specs.declared.report.Report.{Report}
use Rattle.detect.specs.Operation.{whole}

-- e 0, .., e (n - 1), and zeros up to `max_qubits` entries
unfoldable pub table : ℕ → (ℕ → ℕ) → List ℕ
table n e = list_of max_qubits (λ k. cond (ltb k n) (e k) 0)

-- `gaussian_blocks / blocks`: "No blocks: fraction 1.0"
unfoldable pub fraction_of : Counts → Float
fraction_of c = cond (eqb c.blocks 0) f1 (div binary64 (whole c.gaussian) (whole c.blocks))

-- no block is bad
abbrev pub free_of : Counts → Bool
free_of c = eqb c.bad 0

-- and there is no interaction
abbrev pub exact_of : Counts → Bool
exact_of c = free_of c && eqb c.interactions 0

-- the operations that are written: none where a block is bad
abbrev pub written_count : Counts → ℕ
written_count c = cond (free_of c) c.operations 0

unfoldable pub report_of : ℕ → Counts → ℕ → Bool → Ordering → List ℕ → List ℕ → List ℕ → Report
report_of n c swaps angled o order starts modes = record {
  n = n;
  blocks = c.blocks;
  two = c.two;
  gaussian = c.gaussian;
  bad = c.bad;
  nonadjacent = c.nonadjacent;
  interactions = c.interactions;
  swaps = swaps;
  operations = written_count c;
  fraction = fraction_of c;
  residual = c.residual;
  conserving = c.conserving;
  exact = exact_of c;
  free = free_of c;
  angled = angled;
  ordering = o;
  order = order;
  starts = starts;
  modes = modes;
}

-- "A refusal's numbers are zero"
unfoldable pub no_report : Report
no_report = record {
  n = 0;
  blocks = 0;
  two = 0;
  gaussian = 0;
  bad = 0;
  nonadjacent = 0;
  interactions = 0;
  swaps = 0;
  operations = 0;
  fraction = f0;
  residual = f0;
  conserving = false;
  exact = false;
  free = false;
  angled = false;
  ordering = Ordering.Identity;
  order = list_of max_qubits (λ k. 0);
  starts = list_of max_qubits (λ k. 0);
  modes = list_of max_qubits (λ k. 0);
}
