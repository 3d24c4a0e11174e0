-- A run that gives no number: what it says of the tape, and what stands in the slices; and when a tape's run is such. Assumes nothing.
use mathlib.Core.Path.{◌≡◌, refl, ap, ◌∙◌}
use mathlib.Core.Bool.{Bool, true, false, cond}
use mathlib.Core.List.{List}
use Prim.Native.Nat.{ℕ, ◌<◌}
use native.Mathlib.Omega.{arith}
use lib.Dec.{ltb}
use lib.ListN.{length}
use lib.Ieee.{Float}
use borrow.Author.Tests.{ltb-false, ltb-true, eq-eqb}
use Rattle.std.proofs.lemmas.Bool.{cond_both}
use Rattle.tape.specs.Parse.{Parsed, Content, refused, accepted, parse}
use Rattle.tape.specs.declared.header.Header.{Header}
use Rattle.detect.specs.Operation.{written}
use Rattle.detect.specs.Report.{free_of, report_of}
use Rattle.detect.specs.Compile.{tape_counts, reported_of, program_of}
use Rattle.detect.specs.Answers.{number_of, done}
use Rattle.detect.specs.Questions.{Asked, early, late, passed, answer_of, ops_after, has_work, asked_from}
use Rattle.local.specs.State.{stored}
use Rattle.state.specs.Bounds.{dim_of}
use Rattle.evolve.specs.Evolve.{evolved}
use Rattle.gaussian.specs.Run.{verdict_of, asked_report, state_by, state_after, asked, ran, ran_ops, ran_state}
use Rattle.tape.proofs.Numbers.{Numbered, parse-numbered}
use Rattle.gaussian.proofs.Verdicts.{Passes, verdict-passes, passes-verdict}

-- the questions 9 to 15 are answered yes of a tape that passes 1 to 8
pub record Passed (p : Parsed) (h : Header) (c : Content) (w u o s : ℕ) : Type 0 where
  pub parsed : p ≡ accepted h c
  pub work : has_work (length c.gates) h.n w u ≡ true
  pub rest : Passes h (reported_of h c.gates) (length (program_of h c.gates)) o s

-- what an answer that gives no number says; no other gives the number 0
abbrev Says : (p : Parsed) (w u o s : ℕ) → Asked → Type 0
Says p w u o s (early number place) = 0 < number
Says p w u o s (late number h c) = 0 < number
Says p w u o s (passed h c) = Passed p h c w u o s

module _ (o s : ℕ) where
  judged-says : (w u : ℕ) (h : Header) (c : Content) → has_work (length c.gates) h.n w u ≡ true
      → Says (accepted h c) w u o s (asked_report o s h c)
  judged-says w u h c work = by (ltb 0 verdict) refl
    where
      verdict : ℕ
      verdict = verdict_of h (reported_of h c.gates) (length (program_of h c.gates)) o s

      by : (b : Bool) → ltb 0 verdict ≡ b → Says (accepted h c) w u o s (cond b (late verdict h c) (passed h c))
      by true e = ltb-true 0 verdict e
      by false e = record {
        parsed = refl;
        work = work;
        rest =
            verdict-passes h (reported_of h c.gates) (length (program_of h c.gates)) o s (omega (arith, ltb-false 0 verdict e));
      }

  asked-says : (p : Parsed) → Numbered p → (w u : ℕ) → Says p w u o s (asked_from (asked_report o s) p w u)
  unfolding asked_from
  asked-says (refused number place) some w u = some
  asked-says (accepted h c) some w u =
      cond_both (has_work (length c.gates) h.n w u) _ _ (Says (accepted h c) w u o s)
      (λ e. judged-says w u h c e) (λ e. omega arith)

  pub passed-asked : (p : Parsed) (h : Header) (c : Content) (w u : ℕ) → Passed p h c w u o s → asked_from (asked_report o s) p w u ≡ passed h c
  unfolding asked_from
  passed-asked p h c w u y =
      ap (λ p. asked_from (asked_report o s) p w u) y.parsed
      ∙ rw (y.work, passes-verdict h (reported_of h c.gates) (length (program_of h c.gates)) o s y.rest)

-- ---- a run that gives no number

pub record Ran (t : List ℕ) (work : List Float) (marks : List ℕ) (ops state : List Float) : Type 0 where
  pub header : Header
  pub content : Content
  pub passes : Passed (parse t) header content (length work) (length marks) (length ops) (length state)
  pub asks : asked t work marks ops state ≡ passed header content
  pub report : ran t work marks ops state ≡ done (reported_of header content.gates)
  pub operations : ran_ops t work marks ops state ≡ written (program_of header content.gates) ops
  pub final : ran_state t work marks ops state ≡ stored (dim_of header.n) (evolved header.n (program_of header content.gates)) state

module _ (t : List ℕ) (work : List Float) (marks : List ℕ) (ops state : List Float) where
  -- what an accepted run says
  pub run-says : number_of (ran t work marks ops state).answer ≡ 0 → Ran t work marks ops state
  unfolding answer_of ops_after state_by
  run-says e =
      by (asked t work marks ops state) refl
      (asked-says (length ops) (length state) (parse t) (parse-numbered t) (length work) (length marks)) e
    where
      by : (x : Asked) → asked t work marks ops state ≡ x → Says (parse t) (length work) (length marks) (length ops) (length state) x
          → number_of (answer_of x).answer ≡ 0 → Ran t work marks ops state
      by (early number place) g y e = absurd (omega (arith, y, e))
      by (late number h c) g y e = absurd (omega (arith, y, e))
      by (passed h c) g y e = record {
        header = h;
        content = c;
        passes = y;
        asks = g;
        report = ap answer_of g;
        operations = ap (λ x. ops_after x ops) g;
        final = ap (λ x. state_after x state) g;
      }

  -- which runs are accepted
  pub run-accepted : (h : Header) (c : Content) → Passed (parse t) h c (length work) (length marks) (length ops) (length state)
      → ran t work marks ops state ≡ done (reported_of h c.gates)
  unfolding answer_of
  run-accepted h c y = ap answer_of (passed-asked (length ops) (length state) (parse t) h c (length work) (length marks) y)

-- no block is bad
pub passes-free : (h : Header) (c : Content) (k o s : ℕ) → Passes h (reported_of h c.gates) k o s → free_of (tape_counts h c.gates) ≡ true
unfolding reported_of report_of
passes-free h c k o s p = eq-eqb (tape_counts h c.gates).bad 0 p.free
