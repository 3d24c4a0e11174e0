-- `queries::basis::basis_number` meets its contract: the marks are those of the index. Assumes nothing.
use Rattle.std.proofs.Common.{refl, ◌∙◌}
use Rattle.queries.specs.Basis.{basis_mark}
use Rattle.queries.specs.Calls.{covariance_of}
use Rattle.queries.proofs.Marking.{marked-none, marked-front}
use Rattle.queries.proofs.Leaving.{answer-alike, work-alike}
use Rattle.queries.proofs.basis.basis_number.Goals as goal

pub note_basis-requires : goal.note_basis-requires
note_basis-requires c = marked-none _ _ _ c.args.checked.few

pub returns : goal.returns
returns c =
    let checked = c.args.checked in
    let n = checked.n in
    let marked = marked-front _ _ n n _ _ refl c.note_basis.ensures in
    let r = c.marked_probability.ensures in
    let f = basis_mark n checked.modes.now c.args.low c.args.high in
    let w = c.args.work.now in
    record {
      answer = r.answer ∙ answer-alike n _ f marked.each (covariance_of n checked.state.now) w;
      work = r.work ∙ work-alike n _ f marked.each w;
    }
