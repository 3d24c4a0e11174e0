-- `queries::products::product_marked` meets its contract: the modes' matrix and its Pfaffian. Assumes nothing.
use Rattle.std.proofs.Common.{rules, refl, ◌≡◌, ◌*◌, length, ℕ, Bool, false, get_or, ap, ◌∙◌, arith, le_refl, sym}
use Rattle.laws.specs.Matrix.{matrix}
use Rattle.state.proofs.Questions.{square-few}
use Rattle.state.specs.Answers.{refusal}
use Rattle.queries.specs.Answers.{taken_apart, given, answered}
use Rattle.queries.specs.Lists.{passing}
use Rattle.queries.specs.Products.{restricted, product_of}
use Rattle.queries.specs.Calls.{covariance_of, worked, worked_work}
use Rattle.queries.proofs.Marking.{passing-below}
use Rattle.queries.proofs.Leaving.{value-left, work-left, work-fits, work-small}
use Rattle.queries.proofs.products.product_marked.Goals as goal

pub overflow_mul-dim-2 : goal.overflow_mul-dim-2
overflow_mul-dim-2 c = omega (arith, square-few c.len-dim.result (omega (arith, c.list_modes-list.ensures.fits, c.len-dim.ensures.value)))

pub returns-then-work-dim : goal.returns-then-work-dim
unfolding answered refusal worked worked_work
returns-then-work-dim c =
    let k = c.list_modes-list in
    let count = c.len-dim.result in
    let n = c.args.checked.n in
    let p : ℕ → Bool = λ k. get_or c.args.odd.now k false in
    let list = k.result.items in
    let same = k.ensures.modes n p c.requires.among (λ k b h g. search rules) in
    let long = sym c.len-dim.ensures.value in
    let small = work-small _ count list long same c.args.work.now c.if-work-dim.true in
    record { answer = rw small; work = rw small }

pub restrict-requires : goal.restrict-requires
restrict-requires c =
    let k = c.list_modes-list in
    let n = c.args.checked.n in
    let p : ℕ → Bool = λ k. get_or c.args.odd.now k false in
    let list = c.as_slice.result.now in
    let same = c.as_slice.ensures.value ∙ k.ensures.modes n p c.requires.among (λ k b h g. search rules) in
    let long = ap length c.as_slice.ensures.value ∙ sym c.len-dim.ensures.value in
    record { below = passing-below n n p list (le_refl _) same; rows = rw long refl }

pub returns : goal.returns
unfolding answered worked worked_work product_of
returns c =
    let k = c.list_modes-list in
    let count = c.len-dim.result in
    let n = c.args.checked.n in
    let p : ℕ → Bool = λ k. get_or c.args.odd.now k false in
    let list = c.as_slice.result.now in
    let same = c.as_slice.ensures.value ∙ k.ensures.modes n p c.requires.among (λ k b h g. search rules) in
    let long = ap length c.as_slice.ensures.value ∙ sym c.len-dim.ensures.value in
    let l = passing p n in
    let F = restricted (covariance_of c.args.checked.n c.args.checked.state.now) in
    let w = c.args.work.now in
    let room = c.if-work-dim.false in
    let fits = work-fits l count list long same w room in
    let p = c.pfaffian_cleared.ensures in
    let is = c.restrict.ensures.same.dim in
    let e : c.restrict.new.m.entries.now ≡ matrix (2 * length list) (F list) w = rw long c.restrict.ensures.now in
    let left : _ ≡ c.pfaffian_cleared.new.m.entries.now = search rules in
    record {
      answer = rw fits (ap given (c.product_number.ensures ∙ ap (taken_apart (λ x. x)) (rw is at p.value ∙ value-left l count list long same F w _ room e)));
      work = rw fits (left ∙ rw is at p.work.now ∙ work-left l count list long same F w _ room e);
    }
