-- `queries::samples::take_shots` meets its contract: the words of the shots passed are written, and work is kept but for its matrix. Assumes nothing.
use Rattle.std.proofs.Common.{◌*◌, ◌≤◌, length, refl, ◌∙◌, arith}
use Rattle.std.proofs.Common.{ap}
use Rattle.laws.specs.Matrix.{at}
use Rattle.laws.specs.Tables.{mode_at}
use Rattle.pfaffian.specs.Shot.{shot_of}
use Rattle.pfaffian.proofs.Listing.{draws-from}
use Rattle.pfaffian.proofs.Keeping.{kept-matrix, kept_then}
use Rattle.state.proofs.Permutations.{table-long}
use Rattle.queries.specs.Samples.{shot_at}
use Rattle.queries.specs.Calls.{covariance_of}
use Rattle.queries.proofs.Sampling.{shot-copied, written-more, written_all}
use Rattle.real.proofs.Squares.{same_then}
use Rattle.queries.proofs.samples.take_shots.Goals as goal

pub shot-w-requires-clause-n_in_bounds_3 : goal.shot-w-requires-clause-n_in_bounds_3
shot-w-requires-clause-n_in_bounds_3 c =
    let checked = c.args.checked in
    table-long checked.n checked.modes.now checked.permutation

pub loop-i-preserved : goal.loop-i-preserved
loop-i-preserved c =
    let l = c.loop-i in
    let checked = c.args.checked in
    let n = checked.n in
    let is = l.invariant.1.same.dim in
    let copies = c.copy_covariance.ensures in
    let copied = c.copy_covariance.new.m.entries.now in
    let takes = c.shot-w.ensures in
    let dim = c.args.m.now.dim in
    let room : dim * dim ≤ length l.m.entries.now = rw l.invariant.1.kept.long c.args.m.now.room in
    let s = covariance_of n checked.state.now in
    let e = rw is at copies.now in
    let kept = rw (copies.same.dim ∙ is) at takes.kept.kept in
    let words = rw (copies.same.dim ∙ is ∙ c.requires.rows) at takes.words in (
      refl,
      record {
        same = same_then _ _ _ l.invariant.1.same (same_then _ _ _ copies.same takes.kept.same);
        kept = kept_then dim _ copied _ (kept_then dim _ l.m.entries.now copied l.invariant.1.kept (kept-matrix dim l.m.entries.now copied s room e)) kept;
      },
      written-more (shot_at s n checked.modes.now c.args.draws.now) l.i c.args.out.now l.out _ (omega arith)
          (words
          ∙ ap (λ d. shot_of (at (2 * n) copied) n d (mode_at checked.modes.now)) (draws-from c.args.draws.now (l.i * n))
          ∙ shot-copied s n checked.modes.now c.args.draws.now l.i (l.i * n) l.m.entries.now _ (rw c.requires.rows at room) (rw c.requires.rows at e) refl)
          l.invariant.2,
    )

pub returns-clause-out : goal.returns-clause-out
returns-clause-out c =
    let l = c.loop-i in
    written_all _ _ _ _ _ l.i _ _ (omega arith) (omega arith) l.invariant.2
