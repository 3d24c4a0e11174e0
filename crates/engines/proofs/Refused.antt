-- The register claim holds of the engine's own run and answers. It is false of an engine that holds the vacuum for every tape, of one that applies the first
-- operation only, of one that gives one parity for all, of one that answers 12 always, and of one whose question 20 always says no: the witness is a tape with
-- X on 0 and X on 1. What the first two leave is the state of another register tape, without gates or with X on 0 alone, whose answers are its own register's.
-- Assumes nothing.
use mathlib.Core.Path.{◌≡◌, refl, sym, ap, ◌∙◌, subst}
use mathlib.Core.Logic.{◌⊎◌, inl, inr, ◌≢◌}
use mathlib.Core.Bool.{Bool, true, false, cond, false≢true}
use mathlib.Core.List.Memᴰ
use mathlib.Core.List.{List, [], ◌∷◌, Memᴰ}
use Prim.Native.Nat.{ℕ}
use native.Mathlib.Omega.{arith}
use lib.ListN.{length, take, replicate}
use lib.Ieee.{Float, neg, lt, le, of_bits}
use borrow.Author.Tests.{eq-eqb}
use Rattle.laws.specs.Views.{from, up_from}
use Rattle.laws.specs.Tests.{all_below, count}
use Rattle.laws.specs.Zeros.{+0, +1}
use Rattle.num.specs.Bits.{le16, le32, le64}
use Rattle.named.specs.Table.{gate_x, matrix1q_of}
use Rattle.tape.specs.Header.{header_at, is_tolerance, header_marked, header_of}
use Rattle.tape.specs.Codes.{qubits_of, floats_of, gate_length}
use Rattle.tape.specs.Records.{marked_at, qubits_below, qubits_differ, entries_small, gate_fault, sound, gate_record_at, record_at}
use Rattle.tape.specs.Gates.{matrix1_at, gate_at}
use Rattle.tape.specs.Parse.{Content, accepted, nothing, with_gate, stepped, walk, after_header, parse}
use Rattle.tape.specs.declared.header.Header.{Header}
use Rattle.tape.specs.declared.gates.Gate.{Gate}
use Rattle.tape.specs.declared.gates.Gate.TheVariants.{One}
use Rattle.fuse.specs.Relabel.{labelled, unlabelled}
use Rattle.fuse.specs.Fuse.{fused}
use Rattle.fuse.specs.Compress.{compressed}
use Rattle.resolve.specs.Resolve.{resolved, with_rests, start_of}
use Rattle.resolve.specs.Whole.{resolved_of, fuse_of}
use Rattle.order.specs.Arrangement.{find}
use Rattle.order.specs.Choice.{choose_order_of}
use Rattle.detect.specs.Answers.{Compiled, number_of, done}
use Rattle.detect.specs.Operation.{Operation}
use Rattle.detect.specs.Emit.{operations_of}
use Rattle.detect.specs.Report.{table, free_of, report_of}
use Rattle.detect.specs.Compile.{match_pairs, labels_of, items_of, order_of, mode_of_wire, tape_counts, reported_of, program_of}
use Rattle.detect.specs.Questions.{passed, answer_of}
use Rattle.local.specs.State.{stored}
use Rattle.state.specs.Bounds.{dim_of}
use Rattle.state.specs.Questions.{state_ok}
use Rattle.state.specs.Answers as Answers
use Rattle.queries.specs.Lists.{first_from, bad_place, bits_ok, noted, stop_place}
use Rattle.evolve.specs.Evolve.{evolved}
use Rattle.register.specs.Register.{RegisterTape, RegisterGate, PlainGate, register_from, register_bits}
use Rattle.basis.specs.Answers.{odd_ones, register_product}
use Rattle.claim.specs.Questions.{agree}
use Rattle.claim.specs.Queries.{Ask, Query, product, marginal, probability, sample, Given, answer, answers, Begins, passes, RightAnswer}
use Rattle.claim.proofs.Tables.{own-table}
use Rattle.claim.proofs.Plain.{plain-free}
use Rattle.claim.proofs.Answering.{tape-answers}
use Rattle.gaussian.specs.Run.{asked, ran, state_by}
use Rattle.gaussian.specs.Claim.{RightRun, Suffice}
use Rattle.gaussian.proofs.Accepted.{passed-asked}
use Rattle.gaussian.proofs.Claim.{suffice-passes, register-claim}
use Rattle.gaussian.proofs.Edges.{tape, x0, headed, only, x_on0, parses, PlainRegister, no-gate, one-x, plain-register}
use Rattle.engines.specs.Engines.{Engine, Claimed, altered, run_by, asked_by, own_engine, vacuum_engine, first_engine, parity_engine, twelve_engine}
use Rattle.engines.specs.Engines.{never_room, no_room}

-- ---- the engine

pub own-claimed : Claimed own_engine
own-claimed = register-claim

-- ---- the witness: n = 2, flags 0, tolerance 0, limit 128, X on 0, X on 1

x01 : List ℕ
x01 = tape 2 0 128 0 (0x51 ∷ 0x47 ∷ 0x02 ∷ 0 ∷ 0x51 ∷ 0x47 ∷ 0x02 ∷ 1 ∷ [])

abbrev h : Header
h = headed 2 0 128

abbrev x_on1 : Gate
x_on1 = One 0x02 1 gate_x

abbrev both : Content
both = record { gates = x_on0 ∷ x_on1 ∷ []; places = 20 ∷ 24 ∷ []; labels = [] }

parsed : parse x01 ≡ accepted h both
unfolding x01 parse after_header header_of header_marked is_tolerance header_at le64 le32 le16 of_bits lt le walk stepped record_at marked_at gate_record_at
    qubits_of gate_length floats_of gate_fault qubits_below qubits_differ entries_small all_below sound with_gate gate_at matrix1_at matrix1q_of
parsed = refl

both-plain : PlainRegister both.gates
both-plain g i = by (Memᴰ.cases_cons i)
  where
    by : (g ≡ x_on0) ⊎ Memᴰ g (x_on1 ∷ []) → RegisterGate g × PlainGate g
    by (inl e) = rw e (tt, tt)
    by (inr i) = let e : g ≡ x_on1 = Memᴰ.eq_of_singleton i in rw e (tt, tt)

register : RegisterTape x01
register = plain-register x01 h both parsed both-plain

-- slices that suffice

work : List Float
work = replicate 256 +0

marks : List ℕ
marks = replicate 128 0

ops : List Float
ops = replicate 36 +0

state : List Float
state = replicate 20 +0

-- ---- programs of tapes of X, without computing a float

module _ (t : List ℕ) (c : Content) (e : parse t ≡ accepted h c) (plain : PlainRegister c.gates) where
  free : free_of (tape_counts h c.gates) ≡ true
  free = eq-eqb (tape_counts h c.gates).bad 0 (plain-free t h c e (plain-register t h c e plain) (λ g i. (plain g i).1)).0

  program-is : program_of h c.gates ≡ operations_of (mode_of_wire h c.gates) (items_of h c.gates).items
  unfolding program_of
  program-is = rw free

-- the operations of the three tapes
operations : (length (operations_of (mode_of_wire h both.gates) (items_of h both.gates).items) ≡ 2)
    × (take 1 (operations_of (mode_of_wire h both.gates) (items_of h both.gates).items)
    ≡ operations_of (mode_of_wire h (x_on0 ∷ [])) (items_of h (x_on0 ∷ [])).items)
    × (◌≡◌ {A = List Operation} [] (operations_of (mode_of_wire h []) (items_of h []).items))
unfolding items_of labels_of labelled unlabelled fuse_of resolved_of fused compressed resolved with_rests start_of up_from from order_of choose_order_of
    match_pairs operations_of find
operations = (refl, refl, refl)

-- qubit q stays on mode q
tables : ((reported_of h (x_on0 ∷ [])).modes ≡ (reported_of h both.gates).modes) × ((reported_of h []).modes ≡ (reported_of h both.gates).modes)
unfolding reported_of report_of table items_of labels_of labelled unlabelled fuse_of resolved_of fused compressed resolved with_rests start_of up_from from
    order_of choose_order_of match_pairs find
tables = (refl, refl)

-- ---- the run on the witness

suffice : Suffice h both.gates (length work) (length marks) (length ops) (length state)
unfolding work marks ops state
suffice = record {
  nine = refl;
  ten = omega (arith, ap length (program-is x01 both parsed both-plain), operations.0);
  fourteen = omega arith;
  fifteen = omega arith;
}

given-none : number_of (ran x01 work marks ops state).answer ≡ 0
given-none = (register-claim x01 work marks ops state).accepts h both parsed register (λ g i. (both-plain g i).1) suffice

run-asked : asked x01 work marks ops state ≡ passed h both
run-asked =
    let counts = plain-free x01 h both parsed register (λ g i. (both-plain g i).1) in
    passed-asked (length ops) (length state) (parse x01) h both (length work) (length marks)
    (record { parsed = parsed; work = suffice.nine; rest = suffice-passes h both _ _ _ _ counts.0 counts.2 suffice })

run-report : ran x01 work marks ops state ≡ done (reported_of h both.gates)
unfolding answer_of
run-report = ap answer_of run-asked

-- ---- Z of qubit 1 must be -1

abbrev z1 : Query
z1 = product (1 ∷ []) (replicate 4 +0)

minus≢plus : register_product (register_bits both.gates) (1 ∷ []) ≡ +1 → ⊥
unfolding register_bits register_from odd_ones neg lt
minus≢plus e = false≢true (sym (ap (λ (x : Float). lt x +0) e))

-- a query of each other kind
abbrev marginal0 : Query
marginal0 = marginal (0 ∷ []) (1 ∷ []) (replicate 4 +0)

abbrev index3 : Query
index3 = probability 3 0 (replicate 16 +0)

abbrev shot : Query
shot = sample 1 (+0 ∷ +0 ∷ []) (replicate 16 +0) (0 ∷ 0 ∷ [])

-- what is lent to them suffices
suffices : (passes 2 z1 ≡ true) × (passes 2 marginal0 ≡ true) × (passes 2 index3 ≡ true) × (passes 2 shot ≡ true)
unfolding count all_below agree lt le
suffices = (refl, refl, refl, refl)

one-tape : {k l : Header} {c d : Content} → accepted k c ≡ accepted l d → (k ≡ l) × (c ≡ d)
one-tape e = (cc, cc)

-- what an engine whose claim holds answers to the witness
module _ (e : Engine) (claim : Claimed e) where
  module _ (number : (e.run x01 work marks ops state).number ≡ 0) where
    y : RightRun e.ask x01 (e.run x01 work marks ops state)
    y = (claim x01 work marks ops state).right register number

    -- every query, put to the engine's own n, state and mode table, is answered rightly
    claimed : (let x = e.run x01 work marks ops state in
        Begins 2 x.modes x.modes → (q : Query) → RightAnswer 2 (register_bits both.gates) q (e.ask x.n x.state x.modes q))
    unfolding answers
    claimed lent q =
        let same = one-tape (sym y.parsed ∙ parsed) in
        let x = e.run x01 work marks ops state in
        let own = subst (λ (k : Header). Begins k.n x.modes x.modes) (sym same.0) lent in
        subst (λ (k : Header). RightAnswer k.n (register_bits both.gates) q (e.ask x.n x.state x.modes q)) same.0
        (subst (λ (c : Content). RightAnswer y.header.n (register_bits c.gates) q (e.ask x.n x.state x.modes q)) same.1
        (y.right x.modes own (q ∷ [])).0)

    -- so is Z of qubit 1
    z-claimed : (let x = e.run x01 work marks ops state in
        Begins 2 x.modes x.modes → (e.ask x.n x.state x.modes z1).told.number ≡ 0
        → (e.ask x.n x.state x.modes z1).told.value ≡ register_product (register_bits both.gates) (1 ∷ []))
    z-claimed lent given = ap (λ (g : Given). g.told.value) ((claimed lent z1).right given)

-- the report's table, lent as it is
own-lent : Begins 2 (ran x01 work marks ops state).report.modes (ran x01 work marks ops state).report.modes
own-lent = rw run-report (own-table x01 h both parsed)

-- an engine that leaves the state of another register tape, on which qubit 1 is not turned
module _ (f : List Operation → List Operation) (t : List ℕ) (c : Content) (e : parse t ≡ accepted h c) (plain : PlainRegister c.gates)
    (program : f (program_of h both.gates) ≡ program_of h c.gates) (modes : (reported_of h c.gates).modes ≡ (reported_of h both.gates).modes)
    (still : register_product (register_bits c.gates) (1 ∷ []) ≡ +1) where
  state-is : state_by (altered f) (asked x01 work marks ops state) state ≡ stored (dim_of 2) (evolved 2 (program_of h c.gates)) state
  unfolding state_by
  state-is = ap (λ x. state_by (altered f) x state) run-asked ∙ ap (λ os. stored (dim_of 2) (evolved 2 os) state) program

  -- what the other tape's register says
  truth : RightAnswer 2 (register_bits c.gates) z1
      (answer 2 (stored (dim_of 2) (evolved 2 (program_of h c.gates)) state) (reported_of h both.gates).modes z1)
  unfolding answers state
  truth =
      (tape-answers t h c e state (omega arith) (reported_of h both.gates).modes
      (subst (λ (l : List ℕ). Begins 2 (reported_of h c.gates).modes l) modes (own-table t h c e))
      (plain-register t h c e plain) (free t c e plain) (z1 ∷ [])).0

  answer-is : answer (ran x01 work marks ops state).report.n (state_by (altered f) (asked x01 work marks ops state) state)
      (ran x01 work marks ops state).report.modes z1
      ≡ answer 2 (stored (dim_of 2) (evolved 2 (program_of h c.gates)) state) (reported_of h both.gates).modes z1
  unfolding reported_of report_of
  answer-is = λ z. answer (run-report z).report.n (state-is z) (run-report z).report.modes z1

  pub wrong-state : ¬ Claimed (record { run = run_by f; ask = answer })
  wrong-state claim =
      let zero = truth.answered suffices.0 in
      minus≢plus
      (sym (z-claimed (record { run = run_by f; ask = answer }) claim given-none own-lent (ap (λ (g : Given). g.told.number) answer-is ∙ zero))
      ∙ ap (λ (g : Given). g.told.value) (answer-is ∙ truth.right zero) ∙ still)

-- ---- and so they are refused

bits : (register_product (register_bits []) (1 ∷ []) ≡ +1) × (register_product (register_bits (x_on0 ∷ [])) (1 ∷ []) ≡ +1)
unfolding register_bits register_from odd_ones
bits = (refl, refl)

vacuum-program : [] ≡ program_of h []
vacuum-program = operations.2 ∙ sym (program-is (tape 2 0 128 0 []) nothing parses.0 no-gate)

first-program : take 1 (program_of h both.gates) ≡ program_of h (x_on0 ∷ [])
first-program =
    ap (take 1) (program-is x01 both parsed both-plain) ∙ operations.1
    ∙ sym (program-is (tape 2 0 128 0 x0) (only x_on0) parses.2 (one-x gate_x))

one-parity : ¬ Claimed parity_engine
one-parity claim =
    minus≢plus (sym (z-claimed parity_engine claim (subst (λ (n : ℕ). n ≡ 0) refl given-none) own-lent refl))

twelve : ¬ Claimed twelve_engine
twelve claim =
    let z = (claim x01 work marks ops state).accepts h both parsed register (λ g i. (both-plain g i).1) suffice in
    omega (arith, z)

-- ---- question 20 always no

-- answers that leave a query out that must be answered
pub unanswered : (a : Ask) (q : Query) → passes 2 q ≡ true → ((s : List Float) (modes : List ℕ) → (a 2 s modes q).told.number ≢ 0) → ¬ Claimed (asked_by a)
unfolding reported_of report_of
unanswered a q p never claim =
    let x = run_by (λ os. os) x01 work marks ops state in
    let n : x.n ≡ 2 = ap (λ (c : Compiled). c.report.n) run-report in
    never x.state x.modes
    (subst (λ (n : ℕ). (a n x.state x.modes q).told.number ≡ 0) n
    ((claimed (asked_by a) claim (subst (λ (n : ℕ). n ≡ 0) refl given-none) own-lent q).answered p))

-- to all queries, or to those of one kind
no-room : ¬ Claimed (asked_by never_room) × ¬ Claimed (asked_by (no_room 0)) × ¬ Claimed (asked_by (no_room 1))
    × ¬ Claimed (asked_by (no_room 2)) × ¬ Claimed (asked_by (no_room 3))
unfolding bad_place stop_place first_from bits_ok noted all_below
no-room = (
  unanswered never_room z1 suffices.0 (λ s modes. never (state_ok 2 s modes)),
  unanswered (no_room 0) z1 suffices.0 (λ s modes. never (state_ok 2 s modes)),
  unanswered (no_room 1) marginal0 suffices.1 (λ s modes. never (state_ok 2 s modes)),
  unanswered (no_room 2) index3 suffices.2 (λ s modes. never (state_ok 2 s modes)),
  unanswered (no_room 3) shot suffices.3 (λ s modes. never (state_ok 2 s modes)),
)
  where
    never : (t : Bool) → (cond t (Answers.refused 20 0) (Answers.refused 16 0)).number ≢ 0
    never true e = absurd (omega (arith, e))
    never false e = absurd (omega (arith, e))

pub refused : ¬ Claimed vacuum_engine × ¬ Claimed first_engine × ¬ Claimed parity_engine × ¬ Claimed twelve_engine
    × ¬ Claimed (asked_by never_room)
refused = (
  wrong-state (λ os. []) (tape 2 0 128 0 []) nothing parses.0 no-gate vacuum-program tables.1 bits.0,
  wrong-state (take 1) (tape 2 0 128 0 x0) (only x_on0) parses.2 (one-x gate_x) first-program tables.0 bits.1,
  one-parity,
  twelve,
  no-room.0,
)
