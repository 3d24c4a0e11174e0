-- The sign rows from a tape's bytes to the caller's answer, with the operations applied by any engine: on slices that suffice the run gives no number, the
-- blocks stand for the operations that it leaves, so that the clause `signs` speaks of it, and the parity is the one computed before. No float is computed
-- here. Assumes nothing.
use mathlib.Core.Path.{◌≡◌, refl, sym, ap, subst, ◌∙◌, transport}
use mathlib.Core.Bool.{true, false}
use mathlib.Core.List.{List, [], ◌∷◌, map}
use Prim.Native.Nat.{ℕ, ◌+◌, ◌*◌, ◌≤◌, ◌<◌}
use native.Mathlib.Omega.{arith}
use lib.Dec.{lit<}
use lib.ListN.{length}
use lib.Ieee.{Float, binary64, mul, of_bits}
use borrow.Author.Tests.{le-ltb}
use Rattle.laws.specs.Zeros.{nz}
use Rattle.laws.specs.Bounds.{op_places}
use Rattle.laws.specs.Tables.{mode_at}
use Rattle.laws.specs.Views.{up_from}
use Rattle.named.specs.Table.{f-1}
use Rattle.tape.specs.Parse.{Content, accepted, parse}
use Rattle.tape.specs.declared.header.Header.{Header}
use Rattle.order.specs.Arrangement.{find}
use Rattle.detect.specs.Answers.{Answer, Compiled, number_of, done}
use Rattle.detect.specs.declared.report.Report.{Report}
use Rattle.detect.specs.Operation.{Operation, places_of, written}
use Rattle.detect.specs.Report.{table, report_of}
use Rattle.detect.specs.Compile.{tape_counts, reported_of, program_of}
use Rattle.work.specs.Sizes.{work_floats, work_marks}
use Rattle.detect.specs.Questions.{passed, ops_after}
use Rattle.detect.proofs.Edges.{modes-by}
use Rattle.detect.proofs.Answering.{reported-operations}
use Rattle.local.specs.Bounds.{state_places}
use Rattle.local.specs.State.{state_at, stored, vacuum, get}
use Rattle.local.proofs.Stored.{stored_is}
use Rattle.state.specs.Bounds.{dim_of}
use Rattle.state.specs.Operation.{Engine, effect}
use Rattle.state.specs.Questions.{state_ok}
use Rattle.state.specs.Answers as Answers
use Rattle.state.proofs.Questions.{still-ok}
use Rattle.queries.specs.Products.{z_of}
use Rattle.queries.specs.Calls.{expectation_z_product_of}
use Rattle.queries.proofs.One.{one-qubit}
use Rattle.signs.specs.Paulis.{minus}
use Rattle.signs.specs.Majoranas.{zs}
use Rattle.signs.specs.Circuits.{BlockOp}
use Rattle.signs.specs.Signs.{StandIn}
use Rattle.evolve.specs.Evolve.{evolved, evolved_by, held_in}
use Rattle.evolve.proofs.Evolving.{stored-long, written-held}
use Rattle.claim.proofs.Answering.{passes-sixteen}
use Rattle.claim.proofs.Tables.{own-table}
use Rattle.gaussian.specs.Run.{bytes_of, state_by, asked, ran, ran_ops}
use Rattle.gaussian.specs.Claim.{Suffice}
use Rattle.gaussian.specs.Signs.{value_after}
use Rattle.gaussian.proofs.Accepted.{Passed, passed-asked, run-accepted}
use Rattle.gaussian.proofs.Claim.{suffice-passes}
use Rattle.gaussian.proofs.Expectation.{z_after}
use Rattle.rows.specs.Lost.{left_state}
use Rattle.rows.proofs.SignRow as row
use Rattle.rows.proofs.SignRow.{header, far_header, gates, far_gates}
use Rattle.rows.proofs.SignTape.{tape, far_tape, content, far_content, parses}
use Rattle.rows.proofs.SignBlocks.{blocks, far_blocks, stand, say}

-- ---- a worked row

-- a tape, its program, the blocks that stand for it; and a qubit on the mode of its number, of which the strings say that Z is -1
pub record Worked : Type 0 where
  pub tape : List ℕ
  pub header : Header
  pub content : Content
  pub parsed : parse tape ≡ accepted header content
  pub free : (tape_counts header content.gates).bad ≡ 0
  pub calm : (tape_counts header content.gates).interactions ≡ 0
  pub limit : bytes_of header.n ≤ header.limit
  pub program : List Operation
  pub is : program_of header content.gates ≡ program
  pub blocks : List BlockOp
  pub stand : StandIn header.n blocks (map places_of program)
  pub qubit : ℕ
  pub below : qubit < header.n
  pub mode : mode_at (reported_of header content.gates).modes qubit ≡ qubit
  pub says : value_after header.n blocks (zs (qubit ∷ [])) ≡ minus

pub row-mode : mode_at (reported_of header gates).modes 2 ≡ 2
unfolding table up_from find
row-mode = ap (λ (l : List ℕ). mode_at l 2) (modes-by header gates row.items (0 ∷ 1 ∷ 2 ∷ []) 0 false row.identity row.fusing-is row.order_is.0)

pub far-mode : mode_at (reported_of far_header far_gates).modes 3 ≡ 3
unfolding table up_from find
far-mode =
    ap (λ (l : List ℕ). mode_at l 3)
    (modes-by far_header far_gates row.far_items (0 ∷ 1 ∷ 2 ∷ 3 ∷ []) 0 false row.far_identity row.far-fusing row.order_is.1)

abbrev pub the_row : Worked
the_row = record {
  tape = tape;
  header = header;
  content = content;
  parsed = parses.0;
  free = row.none-bad.0.0;
  calm = row.none-bad.0.1;
  limit = omega arith;
  program = row.program;
  is = row.program-is.0;
  blocks = blocks;
  stand = stand.0;
  qubit = 2;
  below = lit< tt;
  mode = row-mode;
  says = say.0;
}

abbrev pub far_row : Worked
far_row = record {
  tape = far_tape;
  header = far_header;
  content = far_content;
  parsed = parses.1;
  free = row.none-bad.1.0;
  calm = row.none-bad.1.1;
  limit = omega arith;
  program = row.far_program;
  is = row.program-is.1;
  blocks = far_blocks;
  stand = stand.1;
  qubit = 3;
  below = lit< tt;
  mode = far-mode;
  says = say.1;
}

-- slices that suffice for g gates, n qubits and k operations
pub record Roomy (g n k : ℕ) (work : List Float) (marks : List ℕ) (ops state : List Float) : Type 0 where
  pub floats : work_floats g n ≤ length work
  pub numbers : work_marks g n ≤ length marks
  pub operations : op_places * k ≤ length ops
  pub places : state_places (dim_of n) ≤ length state

-- ---- its run

module _ (x : Worked) (work : List Float) (marks : List ℕ) (ops state : List Float)
    (roomy : Roomy (length x.content.gates) x.header.n (length x.program) work marks ops state) where
  abbrev report : Report
  report = reported_of x.header x.content.gates

  suffices : Suffice x.header x.content.gates (length work) (length marks) (length ops) (length state)
  suffices =
      let g = length x.content.gates in
      let n = x.header.n in record {
        nine = rw (le-ltb (length work) (work_floats g n) roomy.floats, le-ltb (length marks) (work_marks g n) roomy.numbers);
        ten = rw x.is roomy.operations;
        fourteen = x.limit;
        fifteen = roomy.places;
      }

  passes : Passed (parse x.tape) x.header x.content (length work) (length marks) (length ops) (length state)
  passes = record { parsed = x.parsed; work = suffices.nine; rest = suffice-passes x.header x.content _ _ _ _ x.free x.calm suffices }

  pub run_is : ran x.tape work marks ops state ≡ done report
  run_is = run-accepted x.tape work marks ops state x.header x.content passes

  pub accepts : number_of (ran x.tape work marks ops state).answer ≡ 0
  accepts = ap (λ (c : Compiled). number_of c.answer) run_is

  asks : asked x.tape work marks ops state ≡ passed x.header x.content
  asks = passed-asked (length ops) (length state) (parse x.tape) x.header x.content (length work) (length marks) passes

  -- the blocks stand for the operations that it leaves: the premise of the clause
  pub premise : StandIn (ran x.tape work marks ops state).report.n x.blocks
      (held_in (ran x.tape work marks ops state).report.operations (ran_ops x.tape work marks ops state))
  unfolding reported_of report_of ops_after
  premise =
      let places = written-held report.operations (program_of x.header x.content.gates) ops (reported-operations x.header x.content.gates) in
      let here : StandIn x.header.n x.blocks (held_in report.operations (written (program_of x.header x.content.gates) ops)) =
      subst (StandIn x.header.n x.blocks) (sym (places ∙ ap (map places_of) x.is)) x.stand in
      transport
      (λ i. StandIn (sym run_is i).report.n x.blocks (held_in (sym run_is i).report.operations (ops_after (sym asks i) ops)))
      here

  module _ (e : Engine) where
    -- the slice with the state that the program makes of the vacuum
    abbrev left : List Float
    left = stored (dim_of x.header.n) (evolved_by e x.header.n x.program vacuum) state

    left_is : left_state e (asked x.tape work marks ops state) state ≡ left
    unfolding state_by
    left_is =
        ap (λ y. left_state e y state) asks ∙ ap (λ os. stored (dim_of x.header.n) (evolved_by e x.header.n os vacuum) state) x.is

    ok : state_ok x.header.n left report.modes ≡ true
    ok =
        let n = x.header.n in
        let own : List Float = stored (dim_of n) (evolved n (program_of x.header x.content.gates)) state in
        still-ok n report.modes left own
        (stored-long (dim_of n) (evolved_by e n x.program vacuum) state left roomy.places refl
        ∙ sym (stored-long (dim_of n) (evolved n (program_of x.header x.content.gates)) state own roomy.places refl))
        (passes-sixteen x.tape x.header x.content x.parsed state roomy.places report.modes (own-table x.tape x.header x.content x.parsed))

    entry-is : z_of (get (state_at (dim_of x.header.n) left)) x.qubit ≡ z_of (get (evolved_by e x.header.n x.program vacuum)) x.qubit
    entry-is =
        let q = x.qubit in
        let w = stored_is (dim_of x.header.n) state (evolved_by e x.header.n x.program vacuum) left roomy.places refl in
        let low : 2 * q < dim_of x.header.n = omega (arith, x.below) in
        let high : 2 * q + 1 < dim_of x.header.n = omega (arith, x.below) in
        λ i. mul binary64 (mul binary64 (w.entry (2 * q) (2 * q + 1) low high i) (w.sign (2 * q) low i)) (w.sign (2 * q + 1) high i)

    -- Z of the qubit, asked with four places of work
    pub z-told : (z : Float) → z_of (get (evolved_by e x.header.n x.program vacuum)) x.qubit ≡ z → (w : List Float) → 4 ≤ length w
        → (let r = (ran x.tape work marks ops state).report in
        (expectation_z_product_of r.n (left_state e (asked x.tape work marks ops state) state) r.modes (x.qubit ∷ []) w).told ≡ Answers.accepted (nz z))
    unfolding reported_of report_of
    z-told z is w four =
        (λ i. (expectation_z_product_of (run_is i).report.n (left_is i) (run_is i).report.modes (x.qubit ∷ []) w).told)
        ∙ one-qubit x.header.n left report.modes x.qubit ok x.below w four
        ∙ ap (λ k. Answers.accepted (nz (z_of (get (state_at (dim_of x.header.n) left)) k))) x.mode
        ∙ ap (λ (z : Float). Answers.accepted (nz z)) (entry-is ∙ is)

-- ---- this engine's

-- the run of a tape gives no number, the blocks stand for the operations that it leaves, and Z of qubit q, asked with four places of work, is -1
abbrev pub Shown : List ℕ → List BlockOp → ℕ → List Float → List ℕ → List Float → List Float → Type 0
Shown t xs q work marks ops state =
    let r = ran t work marks ops state in
    (r.answer ≡ Answer.Done) × StandIn r.report.n xs (held_in r.report.operations (ran_ops t work marks ops state))
    × ((w : List Float) → 4 ≤ length w → z_after t work marks ops state q w ≡ Answers.accepted f-1)

no-zero : nz f-1 ≡ f-1
unfolding of_bits
no-zero = refl

shown : (x : Worked) → z_of (get (evolved_by effect x.header.n x.program vacuum)) x.qubit ≡ f-1 → (work : List Float) (marks : List ℕ) (ops state : List Float)
    → Roomy (length x.content.gates) x.header.n (length x.program) work marks ops state → Shown x.tape x.blocks x.qubit work marks ops state
shown x turned work marks ops state roomy = (
  ap (λ (c : Compiled). c.answer) (run_is x work marks ops state roomy),
  premise x work marks ops state roomy,
  λ w four. z-told x work marks ops state roomy effect f-1 turned w four ∙ ap Answers.accepted no-zero,
)

-- of ten gates, three qubits and three operations
pub sign-row : (work : List Float) (marks : List ℕ) (ops state : List Float) → Roomy 10 3 3 work marks ops state → Shown tape blocks 2 work marks ops state
sign-row = shown the_row row.turned.0

-- of 13 gates, four qubits and four operations
pub far-row : (work : List Float) (marks : List ℕ) (ops state : List Float) → Roomy 13 4 4 work marks ops state
    → Shown far_tape far_blocks 3 work marks ops state
far-row = shown far_row row.turned.1
