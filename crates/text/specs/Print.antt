-- The printing program: the text of a tape. Definitions only. A public promise rests on this.
use Rattle.std.specs.Prelude.{Bool, false, cond, ◌||◌, List, [], ◌∷◌, ◌++◌, ℕ, ◌*◌, ltb, length, replicate, Float}
use Rattle.laws.specs.Zeros.{+0}
use Rattle.laws.specs.Bounds.{op_places}
use Rattle.tape.specs.Parse.{Parsed, Content, refused, accepted, parse}
use Rattle.tape.specs.declared.header.Header.{Header}
use Rattle.detect.specs.declared.report.Report.{Report}
use Rattle.detect.specs.Compile.{reported_of, program_of}
use Rattle.detect.specs.Questions.{Asked, early, late, passed}
use Rattle.local.specs.Bounds.{state_places}
use Rattle.local.specs.State.{stored}
use Rattle.state.specs.Bounds.{dim_of}
use Rattle.queries.specs.Calls.{expectation_z_product_of}
use Rattle.evolve.specs.Evolve.{evolved}
use Rattle.gaussian.specs.Run.{asked_report}
use Rattle.text.specs.Bounds.{max_tape, printed_gates, printed_qubits}
use Rattle.text.specs.Lines.{report_line, order_line, z_lines, refused_line, too_big_line}

-- ---- "too big"

-- "one that passes 1 to 8 and has over 32 gates or 8 qubits"
unfoldable pub is_large : Parsed → Bool
is_large (refused number place) = false
is_large (accepted h c) = ltb printed_gates (length c.gates) || ltb printed_qubits h.n

-- "over 60,000 bytes .. so does" such a one
unfoldable pub is_too_big : List ℕ → Bool
is_too_big t = ltb max_tape (length t) || is_large (parse t)

-- ---- the run

-- what its questions come to, with slices as long as 9, 10 and 15 ask
unfoldable pub run_of : Parsed → Asked
run_of (refused number place) = early number place
run_of (accepted h c) = asked_report (op_places * length (program_of h c.gates)) (state_places (dim_of h.n)) h c

-- the state that it leaves, in a slice with room for 8 qubits
abbrev pub state_of : Header → Content → List Float
state_of h c = stored (dim_of h.n) (evolved h.n (program_of h c.gates)) (replicate (state_places (dim_of printed_qubits)) +0)

-- work of one qubit
abbrev pub z_work : List Float
z_work = replicate 4 +0

-- Z of qubit q: what the product over it alone answers of a state
abbrev pub z_at : ℕ → List Float → List ℕ → ℕ → Float
z_at n state modes q = (expectation_z_product_of n state modes (q ∷ []) z_work).told.value

-- ---- the text

-- of a report, with the state
unfoldable pub done_text : Report → List Float → List ℕ
done_text r state =
    report_line r.n r.blocks r.gaussian r.bad r.interactions
    ++ order_line r.ordering r.order r.n
    ++ z_lines (z_at r.n state r.modes) r.n

unfoldable pub text_of : Asked → List ℕ
text_of (early number place) = refused_line number place
text_of (late number h c) = refused_line number 0
text_of (passed h c) = done_text (reported_of h c.gates) (state_of h c)

unfoldable pub printed : List ℕ → List ℕ
printed t = cond (is_too_big t) too_big_line (text_of (run_of (parse t)))
