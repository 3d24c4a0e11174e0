-- `queries::marginals::marked_probability` meets its contract: the matrix and its Pfaffian. Assumes nothing.
use Rattle.std.proofs.Common.{rules, refl, ◌≡◌, ◌*◌, length, get_or, None, ℕ, Bool, ltb, ap, ◌∙◌, arith, le_refl, le_of_eq, sym}
use lib.Ieee.{binary64, mul}
use Rattle.laws.specs.Zeros.{+1, sg}
use Rattle.laws.specs.Matrix.{matrix}
use Rattle.state.proofs.Questions.{square-few}
use Rattle.state.specs.Answers.{refusal}
use Rattle.queries.specs.Answers.{taken_apart, given, answered}
use Rattle.queries.specs.Lists.{noted_modes}
use Rattle.queries.specs.Marginals.{is_one, asked_matrix, at_least_zero_of, marked_of}
use Rattle.queries.specs.Calls.{covariance_of, worked, worked_work}
use Rattle.queries.specs.Inner.{mark_at, odd_among}
use Rattle.queries.proofs.Among.{among-passing}
use Rattle.queries.proofs.Marking.{spans-all, passing-below, is_asked, unasked-one}
use Rattle.queries.proofs.Leaving.{value-left, work-left, work-fits, work-small}
use Rattle.queries.proofs.marginals.marked_probability.Goals as goal

pub overflow_mul-dim-2 : goal.overflow_mul-dim-2
overflow_mul-dim-2 c = omega (arith, square-few c.len-dim.result (omega (arith, c.list_modes-list.ensures.fits, c.len-dim.ensures.value)))

pub returns-then-work-dim : goal.returns-then-work-dim
unfolding answered refusal worked worked_work
returns-then-work-dim c =
    let k = c.list_modes-list in
    let count = c.len-dim.result in
    let n = c.args.checked.n in
    let mark = mark_at c.args.asked.now in
    let p : ℕ → Bool = λ k. ltb 0 (mark k) in
    let list = k.result.items in
    let same = k.ensures.modes n p (spans-all n p) (λ k b h g. let e = is_asked (get_or c.args.asked.now k None) in search rules) in
    let long = sym c.len-dim.ensures.value in
    let small = work-small _ count list long same c.args.work.now c.if-work-dim.true in
    record { answer = rw small; work = rw small }

pub ask-requires : goal.ask-requires
ask-requires c =
    let k = c.list_modes-list in
    let n = c.args.checked.n in
    let mark = mark_at c.args.asked.now in
    let p : ℕ → Bool = λ k. ltb 0 (mark k) in
    let list = c.as_slice.result.now in
    let same = c.as_slice.ensures.value ∙ k.ensures.modes n p (spans-all n p) (λ k b h g. let e = is_asked (get_or c.args.asked.now k None) in search rules) in
    let long = ap length c.as_slice.ensures.value ∙ sym c.len-dim.ensures.value in
    record {
      below = passing-below n n p list (le_refl _) same;
      asked = passing-below n _ p list (le_of_eq (sym c.requires)) same;
      rows = rw long refl;
    }

pub sign-requires : goal.sign-requires
sign-requires c =
    let k = c.list_modes-list in
    let n = c.args.checked.n in
    let p : ℕ → Bool = λ k. ltb 0 (mark_at c.args.asked.now k) in
    let list = c.as_slice-2.result.now in
    let is = k.ensures.modes n p (spans-all n p) (λ k b h g. let e = is_asked (get_or c.args.asked.now k None) in search rules) in
    let same = c.as_slice-2.ensures.value ∙ is in
    passing-below n _ p list (le_of_eq (sym c.requires)) same

pub returns : goal.returns
unfolding answered worked worked_work marked_of
returns c =
    let k = c.list_modes-list in
    let count = c.len-dim.result in
    let n = c.args.checked.n in
    let mark = mark_at c.args.asked.now in
    let p : ℕ → Bool = λ k. ltb 0 (mark k) in
    let list = c.as_slice.result.now in
    let same = c.as_slice.ensures.value ∙ k.ensures.modes n p (spans-all n p) (λ k b h g. let e = is_asked (get_or c.args.asked.now k None) in search rules) in
    let long = ap length c.as_slice.ensures.value ∙ sym c.len-dim.ensures.value in
    let l = noted_modes n mark in
    let F = asked_matrix (covariance_of n c.args.checked.state.now) mark in
    let w = c.args.work.now in
    let room = c.if-work-dim.false in
    let fits = work-fits l count list long same w room in
    let f = c.pfaffian_cleared-end.ensures in
    let is = c.ask.ensures.same.dim in
    let e : c.ask.new.m.entries.now ≡ matrix (2 * length list) (F list) w = rw long c.ask.ensures.now in
    let left : _ ≡ c.pfaffian_cleared-end.new.m.entries.now = search rules in
    let x = rw is at f.value ∙ value-left l count list long same F w _ room e in
    let ones : ℕ → Bool = λ k. is_one (mark k) in
    let all = c.as_slice-2.ensures.value ∙ sym c.as_slice.ensures.value ∙ same in
    let parity = among-passing ones p n (λ k g. unasked-one (get_or c.args.asked.now k None)) in
    let s = c.sign.ensures ∙ ap (λ list. sg (odd_among ones list) +1) all ∙ ap (λ o. sg o +1) parity in
    record {
      answer = rw fits (ap given (c.marginal_number.ensures ∙ (λ t. taken_apart (λ x. at_least_zero_of (mul binary64 (s t) x)) (x t))));
      work = rw fits (left ∙ rw is at f.work.now ∙ work-left l count list long same F w _ room e);
    }
