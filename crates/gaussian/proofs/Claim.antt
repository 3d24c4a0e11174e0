-- The register claim of every run. An accepted run has passed the questions, so that its state is the one that the claim for whole tapes speaks of; a
-- plain tape has no bad blocks and no interactions, so that it passes 11 to 13. Assumes nothing.
use mathlib.Core.Path.{◌≡◌, sym, ap, subst, transport}
use mathlib.Core.List.{List}
use Prim.Native.Nat.{ℕ}
use lib.ListN.{length}
use lib.Ieee.{Float}
use borrow.Author.Tests.{eq-eqb}
use Rattle.tape.specs.Parse.{Content}
use Rattle.tape.specs.declared.header.Header.{Header}
use Rattle.detect.specs.Answers.{Compiled, number_of}
use Rattle.detect.specs.Report.{report_of}
use Rattle.detect.specs.Compile.{tape_counts, reported_of, program_of}
use Rattle.register.specs.Register.{register_bits}
use Rattle.claim.specs.Queries.{answer, answers, Begins, RightAnswers}
use Rattle.claim.proofs.Answering.{tape-answers}
use Rattle.claim.proofs.Plain.{plain-free}
use Rattle.gaussian.specs.Run.{interacts, ran, ran_state}
use Rattle.gaussian.specs.Claim.{left_by, AnswersRight, Suffice, MustAccept, RegisterClaim}
use Rattle.gaussian.proofs.Verdicts.{Passes}
use Rattle.gaussian.proofs.Accepted.{run-says, run-accepted, passes-free}

-- the questions 10 to 15 of a tape without bad blocks and interactions, where slices and limit suffice
pub suffice-passes : (h : Header) (c : Content) (w u o s : ℕ) → (tape_counts h c.gates).bad ≡ 0 → (tape_counts h c.gates).interactions ≡ 0
    → Suffice h c.gates w u o s → Passes h (reported_of h c.gates) (length (program_of h c.gates)) o s
unfolding reported_of report_of interacts
suffice-passes h c w u o s bad none f = record {
  operations = f.ten;
  free = bad;
  interactions = rw (eq-eqb (tape_counts h c.gates).interactions 0 none);
  limit = f.fourteen;
  state = f.fifteen;
}

module _ (t : List ℕ) (work : List Float) (marks : List ℕ) (ops state : List Float) where
  right : AnswersRight answer t (left_by (ran t work marks ops state) (ran_state t work marks ops state))
  unfolding reported_of report_of
  right register e =
      let y = run-says t work marks ops state e in
      let p = y.passes in record {
        header = y.header;
        content = y.content;
        parsed = p.parsed;
        right = λ modes lent qs.
            let table = subst (λ (r : Compiled). Begins y.header.n r.report.modes modes) y.report lent in
            transport
            (λ z. RightAnswers y.header.n (register_bits y.content.gates) qs
            (answers answer (sym y.report z).report.n (sym y.final z) modes qs))
            (tape-answers t y.header y.content p.parsed state p.rest.state modes table register
            (passes-free y.header y.content _ _ _ p.rest) qs);
      }

  accepts : MustAccept t (length work) (length marks) (length ops) (length state) (left_by (ran t work marks ops state) (ran_state t work marks ops state))
  accepts h c e register plain f =
      let free = plain-free t h c e register plain in
      ap (λ (r : Compiled). number_of r.answer)
      (run-accepted t work marks ops state h c (record { parsed = e; work = f.nine; rest = suffice-passes h c _ _ _ _ free.0 free.2 f }))

  pub register-claim : RegisterClaim answer t work marks ops state (left_by (ran t work marks ops state) (ran_state t work marks ops state))
  register-claim = record { right = right; accepts = accepts }

  -- of what a run gives and leaves, which are these
  pub claim-of : (r : Compiled) (s : List Float) → r ≡ ran t work marks ops state → s ≡ ran_state t work marks ops state
      → RegisterClaim answer t work marks ops state (left_by r s)
  claim-of r s e f =
      transport (λ z. RegisterClaim answer t work marks ops state (left_by (sym e z) (sym f z))) register-claim
