-- The signs on every run, and the run beside the plain engine. The operations that stand in the slice are the program's, and the run's state is what calls of
-- `apply` with each of them, in order, make of the vacuum. So the sign theorem speaks of it where blocks stand for them, and what the plain engine says of the
-- engine's calls is said of it. Assumes nothing.
use mathlib.Core.Path.{◌≡◌, refl, sym, ap, subst, ◌∙◌, transport}
use mathlib.Core.Bool.{true}
use mathlib.Core.List.{List, map}
use Prim.Native.Nat.{ℕ, ◌≤◌}
use lib.ListN.{length}
use lib.Ieee.{Float}
use Rattle.laws.specs.Matrix.{matrix}
use Rattle.tape.specs.Parse.{Content, accepted, parse}
use Rattle.tape.specs.declared.header.Header.{Header}
use Rattle.detect.specs.Answers.{Compiled, number_of, done}
use Rattle.detect.specs.Operation.{Operation, places_of, written}
use Rattle.detect.specs.Report.{report_of}
use Rattle.detect.specs.Compile.{reported_of, program_of}
use Rattle.detect.proofs.Answering.{reported-operations}
use Rattle.local.specs.Bounds.{state_places}
use Rattle.local.specs.State.{state_at, stored, vacuum}
use Rattle.state.specs.Bounds.{dim_of}
use Rattle.state.specs.Calls.{called}
use Rattle.state.specs.Questions.{state_ok}
use Rattle.state.proofs.Questions.{still-ok}
use Rattle.signs.specs.Circuits.{BlockOp}
use Rattle.signs.specs.Signs.{Right, StandIn, AllPermute}
use Rattle.signs.proofs.Signs.{signs-by-calls, stand-within}
use Rattle.signs.proofs.Exist.{blocks-stand}
use Rattle.postponed.specs.Beside.{plainly_called, SameAnswers}
use Rattle.postponed.proofs.Beside.{same-by-calls}
use Rattle.evolve.specs.Evolve.{evolved, held_in}
use Rattle.evolve.proofs.Evolving.{called-evolved, stored-long, written-held}
use Rattle.claim.specs.Queries.{answer, Begins}
use Rattle.claim.proofs.Answering.{passes-sixteen}
use Rattle.claim.proofs.Tables.{own-table}
use Rattle.gaussian.specs.Run.{ran, ran_ops, ran_state}
use Rattle.gaussian.specs.Claim.{Left, left_by}
use Rattle.gaussian.specs.Signs.{RightSigns, SignsRight, SignClaim}
use Rattle.gaussian.specs.Beside.{AnswersPlainly, PlainRun}
use Rattle.gaussian.proofs.Accepted.{run-says}
use Rattle.gaussian.proofs.Parities.{right-signs}

-- ---- of a tape's report, program and state

module _ (t : List ℕ) (h : Header) (c : Content) (parsed : parse t ≡ accepted h c) (ops s : List Float) (room : state_places (dim_of h.n) ≤ length s) where
  abbrev pub program : List Operation
  program = program_of h c.gates

  abbrev pub left : List Float
  left = stored (dim_of h.n) (evolved h.n program) s

  -- the operations in the slice
  abbrev pub held : List (List Float)
  held = held_in (reported_of h c.gates).operations (written program ops)

  -- what the caller has in hand
  abbrev pub in_hand : Left
  in_hand = left_by (done (reported_of h c.gates)) left

  module _ (modes : List ℕ) (lent : Begins h.n (reported_of h c.gates).modes modes) where
    passes : state_ok h.n left modes ≡ true
    passes = passes-sixteen t h c parsed s room modes lent

    pub before : state_ok h.n s modes ≡ true
    before = still-ok h.n modes s left (sym (stored-long (dim_of h.n) (evolved h.n program) s left room refl)) passes

    pub calls : called h.n modes held (stored (dim_of h.n) vacuum s) ≡ left
    calls =
        ap (λ l. called h.n modes l (stored (dim_of h.n) vacuum s))
        (written-held (reported_of h c.gates).operations program ops (reported-operations h c.gates))
        ∙ called-evolved h.n modes (map places_of program) vacuum s (stored (dim_of h.n) vacuum s) before refl

    by-calls : (xs : List BlockOp) → StandIn h.n xs held → Right h.n xs (state_at (dim_of h.n) left)
    by-calls xs stand =
        subst (λ (l : List Float). Right h.n xs (state_at (dim_of h.n) l)) calls
        (signs-by-calls h.n xs held modes s (stand-within h.n xs held stand) stand before)

  tape-signs : SignsRight answer in_hand (reported_of h c.gates).operations (written program ops)
  unfolding reported_of report_of
  tape-signs xs stand = right-signs in_hand xs (by-calls (reported_of h c.gates).modes (own-table t h c parsed) xs stand) passes

  tape-plain : AnswersPlainly in_hand (reported_of h c.gates).operations (written program ops)
  unfolding reported_of report_of
  tape-plain modes lent own fits =
      subst (λ (l : List Float). SameAnswers h.n modes l (plainly_called h.n held (matrix (dim_of h.n) vacuum.m own))) (calls modes lent)
      (same-by-calls h.n held modes s own (before modes lent) fits)

-- ---- of every run

module _ (t : List ℕ) (work : List Float) (marks : List ℕ) (ops state : List Float) (r : Compiled) (os s : List Float) (e : r ≡ ran t work marks ops state)
    (f : os ≡ ran_ops t work marks ops state) (g : s ≡ ran_state t work marks ops state) where
  -- what holds of the report, program and state of every tape holds of what an accepted run gives and leaves
  pub of_run : (Claim : Left → ℕ → List Float → Type 0)
      → ((h : Header) (c : Content) → parse t ≡ accepted h c → (ops s : List Float) → state_places (dim_of h.n) ≤ length s
      → Claim (left_by (done (reported_of h c.gates)) (stored (dim_of h.n) (evolved h.n (program_of h c.gates)) s)) (reported_of h c.gates).operations
      (written (program_of h c.gates) ops))
      → number_of r.answer ≡ 0 → Claim (left_by r s) r.report.operations os
  of_run Claim holds number =
      let y = run-says t work marks ops state (ap (λ (r : Compiled). number_of r.answer) (sym e) ∙ number) in
      transport
      (λ z. Claim (left_by (sym (e ∙ y.report) z) (sym (g ∙ y.final) z)) (sym (e ∙ y.report) z).report.operations (sym (f ∙ y.operations) z))
      (holds y.header y.content y.passes.parsed ops state y.passes.rest.state)

  pub signs-of : SignClaim answer (left_by r s) r.report.operations os
  signs-of number = of_run (SignsRight answer) (tape-signs t) number

  pub plain-of : PlainRun (left_by r s) r.report.operations os
  plain-of number = of_run AnswersPlainly (tape-plain t) number

-- of every accepted run whose operations are signed permutations and interactions: blocks stand for them
pub permuting-run : (t : List ℕ) (work : List Float) (marks : List ℕ) (ops state : List Float) → (let r = ran t work marks ops state in
    let held = held_in r.report.operations (ran_ops t work marks ops state) in
    number_of r.answer ≡ 0 → AllPermute r.report.n held
    → (xs : List BlockOp) × StandIn r.report.n xs held × RightSigns answer (left_by r (ran_state t work marks ops state)) xs)
permuting-run t work marks ops state number permute =
    let b = blocks-stand _ _ permute in (b.0, b.1, signs-of t work marks ops state _ _ _ refl refl refl number b.0 b.1)
