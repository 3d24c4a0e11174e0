-- `queries::samples::sample_worked` meets its contract, by its questions. Assumes nothing.
use Rattle.std.proofs.Common.{◌*◌, sym, arith, lt-ltb, le-ltb, le-leb, le_of_eq}
use Rattle.std.proofs.lemmas.List.{length-take-le}
use Rattle.std.proofs.lemmas.Result.{err_from_is_err_and}
use borrow.Author.Tests.{lt-leb}
use Rattle.laws.proofs.Matrix.{same}
use Rattle.state.specs.Answers.{done, refusal}
use Rattle.queries.specs.Samples.{shots_ok}
use Rattle.queries.specs.Calls.{shots_of, shots_out}
use Rattle.queries.proofs.Sampling.{used-few, used-draws}
use Rattle.real.proofs.Squares.{same_here}
use Rattle.queries.proofs.samples.sample_worked.Goals as goal
use Rattle.queries.proofs.samples.sample_worked.Goals.{then-draws-used-via-then-draws-used, then-draws-used-via-else-draws-used+then-out-shots}

pub returns-then-shots-gt-MAX_SHOTS : goal.returns-then-shots-gt-MAX_SHOTS
unfolding done refusal shots_of shots_out shots_ok
returns-then-shots-gt-MAX_SHOTS c =
    let many = lt-leb _ _ c.if-shots-gt-MAX_SHOTS.true in
    record { answer = rw many; out = rw many; kept = record { same = same_here _; kept = same _ _ } }

pub overflow_mul-used : goal.overflow_mul-used
overflow_mul-used c = omega (arith, used-few c.args.checked.n c.args.shots c.args.checked.few c.if-shots-gt-MAX_SHOTS.false)

pub returns-then-draws-used : goal.returns-then-draws-used
unfolding done refusal shots_of shots_out shots_ok
returns-then-draws-used c =
    let few = le-leb _ _ c.if-shots-gt-MAX_SHOTS.false in
    elim c.then-draws-used.branch [
      | then-draws-used-via-then-draws-used w ↦
          let short = lt-leb _ _ w.if-draws-used.true in record { answer = rw (few, short); out = rw (few, short); kept = record { same = same_here _; kept = same _ _ } }
      | then-draws-used-via-else-draws-used+then-out-shots w ↦
          let long = le-leb _ _ w.if-draws-used.false in
          let short = lt-leb _ _ w.if-out-shots.true in
          record { answer = rw (few, long, short); out = rw (few, long, short); kept = record { same = same_here _; kept = same _ _ } }
    ]

pub returns-in_err-check_draws : goal.returns-in_err-check_draws
unfolding done refusal shots_of shots_out shots_ok
returns-in_err-check_draws c =
    let used = c.args.checked.n * c.args.shots in
    let p = err_from_is_err_and c.from_residual.result c.from_residual.ensures.1 in
    let long = c.if-draws-used.false in
    let d = rw (used-draws used c.args.draws.now long, length-take-le used c.args.draws.now long) at c.in_err-check_draws.ensures in
    let few = le-leb _ _ c.if-shots-gt-MAX_SHOTS.false in
    let drawn = le-leb _ _ c.if-draws-used.false in
    let wide = le-leb _ _ c.if-out-shots.false in
    record { answer = rw (p.1, p.2, d.1, few, drawn, wide, lt-ltb _ _ d.0); out = rw (few, drawn, wide, lt-ltb _ _ d.0); kept = record { same = same_here _; kept = same _ _ } }

pub returns : goal.returns
unfolding done shots_of shots_out shots_ok
returns c =
    let used = c.args.checked.n * c.args.shots in
    let long = c.if-draws-used.false in
    let d = rw (used-draws used c.args.draws.now long, length-take-le used c.args.draws.now long) at c.in_ok-check_draws.ensures in
    let few = le-leb _ _ c.if-shots-gt-MAX_SHOTS.false in
    let drawn = le-leb _ _ c.if-draws-used.false in
    let wide = le-leb _ _ c.if-out-shots.false in
    let all = le-ltb _ _ (le_of_eq (sym d)) in
    let t = c.take_shots.ensures in
    record { answer = rw (few, drawn, wide, all); out = rw (few, drawn, wide, all) t.out; kept = t.kept }
