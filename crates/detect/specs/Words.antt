-- The report as plain numbers: 14 words, beside which it has 2 floats and 3 tables. `compile` and `run` write them into slices (crate `engine`); what number
-- and place an answer has is said with the questions. Definitions only. A public promise rests on this.
use Rattle.std.specs.Prelude.{List, [], ◌∷◌, ℕ}
use Rattle.order.specs.Slice.{flag}
use Rattle.order.specs.declared.choice.Ordering.{Ordering}
use Rattle.order.specs.declared.choice.Ordering.TheVariants.{Identity, Paths, Greedy}
use Rattle.detect.specs.declared.report.Report.{Report}

-- ---- how much there is of each

abbrev pub word_count : ℕ
word_count = 14

abbrev pub measure_count : ℕ
measure_count = 2

-- each table has `max_qubits` entries
abbrev pub table_count : ℕ
table_count = 3

-- ---- the words

-- "an enum: identity, paths or greedy"
abbrev pub ordering_word : Ordering → ℕ
ordering_word Identity = 0
ordering_word Paths = 1
ordering_word Greedy = 2

-- counts first, then the flags, then the ordering
unfoldable pub report_words : Report → List ℕ
report_words r =
    r.n ∷ r.blocks ∷ r.two ∷ r.gaussian ∷ r.bad ∷ r.nonadjacent ∷ r.interactions ∷ r.swaps ∷ r.operations
    ∷ flag r.conserving ∷ flag r.exact ∷ flag r.free ∷ flag r.angled ∷ ordering_word r.ordering
    ∷ []
