-- `engine::tapes::jozkeral_run` meets its contract: what the caller's slices say of the register, of the signs and beside the plain engine is what `run` says
-- of them. Assumes nothing.
use mathlib.Core.Path.{◌≡◌, sym, ap, subst, ◌∙◌}
use mathlib.Core.List.{List}
use Prim.Native.Nat.{ℕ, ◌≤◌}
use lib.Ieee.{Float}
use Rattle.laws.specs.Bounds.{max_qubits}
use Rattle.detect.specs.Answers.{Compiled, number_of}
use Rattle.gaussian.specs.Run.{ran}
use Rattle.gaussian.proofs.Expectation.{run-few}
use Rattle.engine.proofs.Claims.{claim-told, signs-told, plain-told}
use Rattle.engine.proofs.tapes.jozkeral_run.Goals as goal

few : (t : List ℕ) (work : List Float) (marks : List ℕ) (ops state : List Float) (r : Compiled) → r ≡ ran t work marks ops state
    → number_of r.answer ≡ 0 → r.report.n ≤ max_qubits
few t work marks ops state r e number =
    subst (λ (r : Compiled). r.report.n ≤ max_qubits) (sym e) (run-few t work marks ops state (ap (λ (r : Compiled). number_of r.answer) (sym e) ∙ number))

pub returns-then-has_report-clause-register : goal.returns-then-has_report-clause-register
returns-then-has_report-clause-register c =
    claim-told _ _ _ _ _ _ _ _ _ _ _ _ _ _ _ _ c.put_report.ensures (λ h. c.run-c.ensures.register)

pub returns-then-has_report-clause-signs : goal.returns-then-has_report-clause-signs
returns-then-has_report-clause-signs c =
    let run = c.run-c.ensures in
    signs-told _ _ _ (few _ _ _ _ _ _ run.answer) _ _ _ _ _ _ _ _ _ c.put_report.ensures (λ h. run.signs)

pub returns-then-has_report-clause-plain : goal.returns-then-has_report-clause-plain
returns-then-has_report-clause-plain c =
    let run = c.run-c.ensures in
    plain-told _ _ _ (few _ _ _ _ _ _ run.answer) _ _ _ _ _ _ _ _ _ c.put_report.ensures (λ h. run.plain)
