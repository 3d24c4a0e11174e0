-- A run by what the report says: which of the questions 11 to 14 is the first whose answer is no. Of tapes with at most one gate, three qubits and one
-- block, and slices that suffice for every such tape; the edges are rows under this. Assumes nothing.
use mathlib.Core.Path.{◌≡◌, refl, ap, ◌∙◌}
use mathlib.Core.Bool.{Bool, true, false, cond}
use mathlib.Core.List.{List}
use Prim.Native.Nat.{ℕ, ◌*◌, ◌≤◌, ◌<◌}
use native.Mathlib.Nat.{mul-le-mul}
use native.Mathlib.Omega.{arith}
use lib.Dec.{ltb}
use lib.ListN.{length}
use lib.Ieee.{Float}
use borrow.Author.Tests.{le-ltb, lt-ltb, eq-eqb, ne_eqb}
use Rattle.std.proofs.lemmas.Bool.{cond_both}
use Rattle.laws.specs.Bounds.{op_places}
use Rattle.tape.specs.Parse.{Content, accepted, parse}
use Rattle.tape.specs.declared.header.Header.{Header}
use Rattle.tape.specs.declared.gates.Gate.{Gate}
use Rattle.detect.specs.Answers.{Answer, Compiled, refusal, done}
use Rattle.detect.specs.declared.report.Report.{Report}
use Rattle.detect.specs.Report.{free_of, report_of}
use Rattle.detect.specs.Compile.{items_of, mode_of_wire, tape_counts, reported_of, program_of}
use Rattle.work.specs.Sizes.{work_floats, work_marks}
use Rattle.detect.specs.Questions.{answer_of, has_work, asked_from}
use Rattle.detect.proofs.Sums.{counts-add}
use Rattle.detect.proofs.Reports.{operations-told}
use Rattle.local.specs.Bounds.{state_places}
use Rattle.state.specs.Bounds.{dim_of}
use Rattle.gaussian.specs.Run.{all_apart, interacts, bytes_of, verdict_of, judged, asked_report, ran}
use Rattle.gaussian.proofs.Verdicts.{passes-verdict}

-- ---- the questions 11 to 14

-- what the header and the report say where k is the first of them whose answer is no, and where there is none
pub data Says (h : Header) (r : Report) : ℕ → Type 0 where
  yes : r.bad ≡ 0 → interacts h r ≡ false → bytes_of h.n ≤ h.limit → Says h r 0
  eleven : 0 < r.bad → r.nonadjacent ≡ r.bad → Says h r 11
  thirteen : r.bad ≡ 0 → interacts h r ≡ true → Says h r 13
  fourteen : r.bad ≡ 0 → interacts h r ≡ false → h.limit < bytes_of h.n → Says h r 14

module _ (h : Header) (r : Report) (n o s : ℕ) (ten : op_places * n ≤ o) (fifteen : state_places (dim_of h.n) ≤ s) where
  says-verdict : {k : ℕ} → Says h r k → verdict_of h r n o s ≡ k
  unfolding verdict_of all_apart
  says-verdict (yes free calm limit) =
      passes-verdict h r n o s (record { operations = ten; free = free; interactions = calm; limit = limit; state = fifteen })
  says-verdict (eleven some apart) =
      rw (le-ltb o (op_places * n) ten, ne_eqb r.bad 0 (λ e. omega arith), eq-eqb r.nonadjacent r.bad apart)
  says-verdict (thirteen free some) =
      rw (le-ltb o (op_places * n) ten, eq-eqb r.bad 0 free, le-ltb 0 r.bad (omega arith), some)
  says-verdict (fourteen free calm limit) =
      rw (
        le-ltb o (op_places * n) ten,
        eq-eqb r.bad 0 free,
        le-ltb 0 r.bad (omega arith),
        calm,
        lt-ltb h.limit (bytes_of h.n) limit,
      )

-- ---- tape and slices

-- the tape, the number that its run gives, 0 if it gives none, and the report
pub record Row (t : List ℕ) (k : ℕ) (report : Report) : Type 0 where
  pub header : Header
  pub content : Content
  pub parsed : parse t ≡ accepted header content
  pub reported : reported_of header content.gates ≡ report
  pub gates : length content.gates ≤ 1
  pub qubits : header.n ≤ 3
  pub blocks : report.blocks ≤ 1
  pub says : Says header report k

-- slices that suffice: work of one gate and three qubits, three operations, the state of three qubits
pub record Roomy (work : List Float) (marks : List ℕ) (ops state : List Float) : Type 0 where
  pub floats : work_floats 1 3 ≤ length work
  pub numbers : work_marks 1 3 ≤ length marks
  pub operations : op_places * 3 ≤ length ops
  pub places : state_places (dim_of 3) ≤ length state

-- a block becomes three operations at most
pub operations-few : (h : Header) (gs : List Gate) → (reported_of h gs).operations ≤ 3 * (reported_of h gs).blocks
unfolding reported_of report_of tape_counts
operations-few h gs =
    cond_both (free_of (tape_counts h gs)) _ _ (λ z. z ≤ 3 * (tape_counts h gs).blocks)
    (λ _. let a = counts-add h.tolerance (mode_of_wire h gs) (items_of h gs).items in omega (arith, a.operations, a.items)) (λ _. omega arith)

places-few : (n : ℕ) → n ≤ 3 → state_places (dim_of n) ≤ state_places (dim_of 3)
places-few n l = let d : 2 * n ≤ 6 = omega arith in omega (arith, mul-le-mul d d)

-- ---- the run

-- a refusal by question k, its place 0, or none where k is 0
abbrev pub numbered : ℕ → Answer
numbered k = cond (ltb 0 k) (Answer.Refused k 0) Answer.Done

-- with the report
abbrev pub answered : ℕ → Report → Compiled
answered k r = cond (ltb 0 k) (refusal k 0) (done r)

module _ {t : List ℕ} {k : ℕ} {r : Report} (x : Row t k r) (work : List Float) (marks : List ℕ) (ops state : List Float)
    (roomy : Roomy work marks ops state) where
  nine : has_work (length x.content.gates) x.header.n (length work) (length marks) ≡ true
  nine =
      rw (
        le-ltb (length work) (work_floats (length x.content.gates) x.header.n) (omega (arith, roomy.floats, x.gates, x.qubits)),
        le-ltb (length marks) (work_marks (length x.content.gates) x.header.n) (omega (arith, roomy.numbers, x.gates, x.qubits)),
      )

  abbrev program : ℕ
  program = length (program_of x.header x.content.gates)

  ten : op_places * program ≤ length ops
  ten =
      let few = operations-few x.header x.content.gates in
      let one = ap (λ (r : Report). r.blocks) x.reported in
      omega (arith, few, operations-told x.header x.content.gates, one, x.blocks, roomy.operations)

  fifteen : state_places (dim_of x.header.n) ≤ length state
  fifteen = omega (arith, places-few x.header.n x.qubits, roomy.places)

  verdict : verdict_of x.header r program (length ops) (length state) ≡ k
  verdict = says-verdict x.header r program (length ops) (length state) ten fifteen x.says

  judge : (b : Bool) → ltb 0 k ≡ b → answer_of (judged k x.header x.content) ≡ answered k r
  unfolding answer_of
  judge true e = rw e
  judge false e = rw e (ap done x.reported)

  pub row-run : ran t work marks ops state ≡ answered k r
  unfolding asked_from
  row-run =
      ap (λ p. answer_of (asked_from (asked_report (length ops) (length state)) p (length work) (length marks))) x.parsed
      ∙ rw (nine, x.reported, verdict) (judge (ltb 0 k) refl)

  pub row-answer : (ran t work marks ops state).answer ≡ numbered k
  row-answer = ap (λ (c : Compiled). c.answer) row-run ∙ by (ltb 0 k)
    where
      by : (b : Bool) → (cond b (refusal k 0) (done r)).answer ≡ cond b (Answer.Refused k 0) Answer.Done
      by true = refl
      by false = refl
