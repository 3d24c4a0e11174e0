-- `state::check::check_state` meets its contract, by its tests. Assumes nothing.
use Rattle.std.proofs.Common.{refl, arith, le-leb}
use borrow.Author.Tests.{lt-leb}
use Rattle.state.specs.Questions.{state_ok}
use Rattle.state.proofs.Questions.{square-few}
use Rattle.state.proofs.check.check_state.Goals as goal
use Rattle.state.proofs.check.check_state.Goals.{then-state-dim-via-then-state-dim, then-state-dim-via-else-state-dim+then-not-is_permutation}

pub returns-then-n-gt-MAX_QUBITS : goal.returns-then-n-gt-MAX_QUBITS
unfolding state_ok
returns-then-n-gt-MAX_QUBITS c = (refl, rw (lt-leb _ _ c.if-n-gt-MAX_QUBITS.true))

pub overflow_mul-dim-2 : goal.overflow_mul-dim-2
overflow_mul-dim-2 c = omega (arith, square-few c.args.n c.if-n-gt-MAX_QUBITS.false)

pub overflow_add-dim : goal.overflow_add-dim
overflow_add-dim c = omega (arith, square-few c.args.n c.if-n-gt-MAX_QUBITS.false)

pub returns-then-state-dim : goal.returns-then-state-dim
unfolding state_ok
returns-then-state-dim c = (
  refl,
  rw (le-leb _ _ c.if-n-gt-MAX_QUBITS.false)
      (elim c.then-state-dim.branch [
        | then-state-dim-via-then-state-dim w ↦ rw (lt-leb _ _ w.if-state-dim.true)
        | then-state-dim-via-else-state-dim+then-not-is_permutation w ↦
            rw (le-leb _ _ w.if-state-dim.false, ← w.is_permutation.ensures) w.if-not-is_permutation.true
      ]),
)

pub returns : goal.returns
unfolding state_ok
returns c = rw (le-leb _ _ c.if-n-gt-MAX_QUBITS.false, le-leb _ _ c.if-state-dim.false, ← c.is_permutation.ensures) c.if-not-is_permutation.false
