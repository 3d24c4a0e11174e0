-- Z of a qubit after an accepted run: the state passes question 16, so that every qubit below n is answered with four places of work; after a register tape the
-- answer is that of the qubit's last bit. Assumes nothing.
use mathlib.Core.Path.{◌≡◌, sym, ap, subst, ◌∙◌}
use mathlib.Core.Bool.{true}
use mathlib.Core.List.{List, [], ◌∷◌, Memᴰ}
use Prim.Native.Nat.{ℕ, ◌≤◌, ◌<◌}
use lib.ListN.{length}
use lib.Ieee.{Float}
use Rattle.laws.specs.Bounds.{max_qubits}
use Rattle.tape.specs.Parse.{Content, accepted, parse, content_of}
use Rattle.tape.specs.declared.header.Header.{Header}
use Rattle.tape.specs.declared.gates.Gate.{Gate}
use Rattle.detect.specs.Answers.{Compiled, number_of}
use Rattle.detect.specs.declared.report.Report.{Report}
use Rattle.detect.specs.Report.{report_of}
use Rattle.detect.specs.Compile.{reported_of}
use Rattle.state.specs.Questions.{state_ok}
use Rattle.state.proofs.Questions as questions
use Rattle.queries.specs.Calls.{expectation_z_product_of}
use Rattle.queries.proofs.One.{one-qubit}
use Rattle.state.specs.Answers.{Told}
use Rattle.state.specs.Answers as Answers
use Rattle.register.specs.Register.{RegisterTape, RegisterGate, register_bits}
use Rattle.basis.specs.Answers.{register_product}
use Rattle.claim.specs.Queries.{Given, Begins, product, answers}
use Rattle.claim.proofs.Tables.{own-table}
use Rattle.claim.proofs.Answering.{passes-sixteen}
use Rattle.gaussian.specs.Run.{ran, ran_state}
use Rattle.gaussian.proofs.Accepted.{run-says}
use Rattle.gaussian.proofs.Claim.{register-claim}

-- the product of qubit q alone, put to the state that the run leaves, with the run's n and mode table, and with work w
abbrev pub z_after : List ℕ → List Float → List ℕ → List Float → List Float → ℕ → List Float → Told
z_after t work marks ops state q w =
    let r = (ran t work marks ops state).report in
    (expectation_z_product_of r.n (ran_state t work marks ops state) r.modes (q ∷ []) w).told

-- a tape whose gates have a register's codes
pub register-tape : (t : List ℕ) (h : Header) (c : Content) → parse t ≡ accepted h c
    → ((x : Gate) → Memᴰ x c.gates → RegisterGate x) → RegisterTape t
unfolding content_of
register-tape t h c e all x m = all x (subst (λ (p : _). Memᴰ x (content_of p).gates) e m)

-- the run gives no number
abbrev pub Accepted : List ℕ → List Float → List ℕ → List Float → List Float → Type 0
Accepted t work marks ops state = number_of (ran t work marks ops state).answer ≡ 0

-- ---- question 16

module _ (t : List ℕ) (work : List Float) (marks : List ℕ) (ops state : List Float) (a : Accepted t work marks ops state) where
  -- the report's n is the header's, and its table may be lent as it is
  module _ (h : Header) (c : Content) (e : parse t ≡ accepted h c) where
    pub run-report : (ran t work marks ops state).report ≡ reported_of h c.gates
    run-report =
        let y = run-says t work marks ops state a in
        let same : accepted y.header y.content ≡ accepted h c = sym y.passes.parsed ∙ e in
        let header : y.header ≡ h = cc in
        let content : y.content ≡ c = cc in
        ap (λ (r : Compiled). r.report) y.report ∙ (λ z. reported_of (header z) (content z).gates)

    pub run-qubits : (ran t work marks ops state).report.n ≡ h.n
    unfolding reported_of report_of
    run-qubits = ap (λ (r : Report). r.n) run-report

    pub run-table : Begins h.n (ran t work marks ops state).report.modes (ran t work marks ops state).report.modes
    run-table = rw run-report (own-table t h c e)

  pub state-passes : (let r = (ran t work marks ops state).report in
      state_ok r.n (ran_state t work marks ops state) r.modes ≡ true)
  unfolding reported_of report_of
  state-passes =
      let y = run-says t work marks ops state a in
      (λ z. state_ok (y.report z).report.n (y.final z) (y.report z).report.modes)
      ∙ passes-sixteen t y.header y.content y.passes.parsed state y.passes.rest.state _
      (own-table t y.header y.content y.passes.parsed)

  -- question 2
  pub run-few : (ran t work marks ops state).report.n ≤ max_qubits
  run-few = (questions.asked _ _ _ state-passes).few

  -- ---- Z of qubit q

  module _ (register : RegisterTape t) (q : ℕ) (l : q < (ran t work marks ops state).report.n) (w : List Float) (four : 4 ≤ length w) where
    z-given : (z_after t work marks ops state q w).number ≡ 0
    z-given = ap (λ (t : Told). t.number) (one-qubit _ _ _ q state-passes l w four)

    pub z-told : (h : Header) (c : Content) → parse t ≡ accepted h c
        → z_after t work marks ops state q w ≡ Answers.accepted (register_product (register_bits c.gates) (q ∷ []))
    unfolding answers
    z-told h c e =
        let y = (register-claim t work marks ops state).right register a in
        let same : accepted y.header y.content ≡ accepted h c = sym y.parsed ∙ e in
        let content : y.content ≡ c = cc in
        ap (λ (g : Given). g.told) ((y.right _ (run-table y.header y.content y.parsed) (product (q ∷ []) w ∷ [])).0.right z-given)
        ∙ ap (λ (c : Content). Answers.accepted (register_product (register_bits c.gates) (q ∷ []))) content
