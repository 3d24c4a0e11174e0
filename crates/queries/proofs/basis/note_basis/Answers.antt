-- `queries::basis::note_basis` meets its contract: the marks are those of the qubits passed, no two of which have one mode. Assumes nothing.
use Rattle.std.proofs.Common.{◌≡◌, ℕ, ◌<◌, ◌≢◌, refl, arith, length-set}
use Rattle.laws.specs.Tables.{mode_at}
use Rattle.state.proofs.Permutations.{mode-one}
use Rattle.queries.specs.Lists.{noted}
use Rattle.queries.specs.Basis.{basis_bit_of}
use Rattle.queries.proofs.Marking.{none-contradicts, note-turn}
use Rattle.queries.proofs.basis.note_basis.Goals as goal

pub loop-q-init : goal.loop-q-init
unfolding noted
loop-q-init c = (refl, c.requires)

pub loop-q-preserved : goal.loop-q-preserved
loop-q-preserved c =
    let l = c.loop-q in
    let checked = c.args.checked in
    let modes = checked.modes.now in
    let bits = basis_bit_of c.args.low c.args.high in
    let free : (j : ℕ) → j < l.q → mode_at modes j ≢ mode_at modes l.q =
    λ j g q. let z : j ≡ l.q = mode-one checked.n modes checked.permutation j l.q (omega arith) (omega arith) q in omega arith in (
      simp length-set l.invariant.0,
      note-turn (mode_at modes) bits checked.n l.asked l.q c.mode_of-k.result _ c.mode_of-k.ensures.bound
          c.mode_of-k.ensures.value (none-contradicts (mode_at modes) bits l.q free)
          c.basis_bit.ensures l.invariant.1,
    )
