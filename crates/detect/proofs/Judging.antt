-- What a judge says of a report, and what is told of it; the answer of a refusal that is handed on. Assumes nothing.
use mathlib.Core.Path.{◌≡◌, refl, sym, ap, ◌∙◌}
use mathlib.Core.Logic.{inl, inr}
use mathlib.Core.Bool.{Bool, true, false, true≢false, cond}
use mathlib.Core.List.{List}
use Prim.Native.Nat.{ℕ}
use lib.ListN.{length}
use Rattle.std.specs.Prelude.{Result, Ok, Err, IsErrAnd}
use Rattle.std.specs.Result.{is_ok}
use Rattle.laws.specs.Slices.{filled}
use Rattle.tape.specs.Parse.{Content}
use Rattle.tape.specs.declared.header.Header.{Header}
use Rattle.detect.specs.declared.refusal.Refusal.{Refusal}
use Rattle.detect.specs.declared.refusal.Refusal.TheVariants.{SmallOperations}
use Rattle.detect.specs.declared.report.Report.{Report}
use Rattle.detect.specs.Answers.{refusal}
use Rattle.detect.specs.Compile.{reported_of, program_of}
use Rattle.detect.specs.Questions.{Asked, late, passed, answer_of, work_after, ops_lack, asked_ten}
use Rattle.detect.specs.Told.{question_of, offset_of, told, Judged, AfterNine, ten_of}
use Rattle.detect.proofs.Answering.{reported-operations}

pub ok_of : {E : Type 0} (r : Result Unit E) → is_ok r ≡ true → r ≡ Ok tt
ok_of (Ok _) e = refl
ok_of (Err why) e = absurd (true≢false (sym e))

-- ---- a refusal that is handed on

pub told_err : (r : Result Report Refusal) (why : Refusal) → IsErrAnd r (λ e. e ≡ why) → told r ≡ refusal (question_of why) (offset_of why)
told_err (Ok x) why h = absurd h
told_err (Err e) why h = ap (λ e. refusal (question_of e) (offset_of e)) h

-- ---- what a judge says

module _ (h : Header) (c : Content) (x : Asked) where
  pub refused_by : (v : Result Unit Refusal) (why : Refusal) (r : Result Report Refusal) → v ≡ Err why → Judged v h c x → IsErrAnd r (λ e. e ≡ why)
      → (told r ≡ answer_of x) × (x ≡ late (question_of why) h c)
  unfolding answer_of
  refused_by v why r e j f =
      let l : (x ≡ late (question_of why) h c) × (offset_of why ≡ 0) = rw e at j in
      (told_err r why f ∙ ap (refusal (question_of why)) l.1 ∙ sym (ap answer_of l.0), l.0)

  pub judged_after : (v : Result Unit Refusal) → Judged v h c x → AfterNine x h c
  judged_after (Ok _) j = inl j
  judged_after (Err why) j = inr (question_of why, j.0)

  pub after_work : {A : Type 0} (k : ℕ → ℕ → ℕ) (v : A) (l : List A) → AfterNine x h c → work_after k v x l ≡ filled (k (length c.gates) h.n) v l
  unfolding work_after
  after_work k v l (inl e) = rw e refl
  after_work k v l (inr e) = rw e.1 refl

-- ---- question 10

pub ten-judged : (h : Header) (c : Content) (o : ℕ) (v : Result Unit Refusal) → v ≡ ten_of o (reported_of h c.gates).operations → Judged v h c (asked_ten o h c)
ten-judged h c o v e = by (ops_lack o (length (program_of h c.gates))) (e ∙ ap (ten_of o) (reported-operations h c.gates))
  where
    by : (b : Bool) → v ≡ cond b (Err SmallOperations) (Ok tt) → Judged v h c (cond b (late 10 h c) (passed h c))
    by true e = rw e (refl, refl)
    by false e = rw e refl
