-- `state::checked::Checked::mode_of` meets its contract: a permutation's entries are below n. Assumes nothing.
use Rattle.std.proofs.Common.{arith}
use Rattle.state.proofs.Permutations.{table-long, mode-below}
use Rattle.state.proofs.checked.Checked.mode_of.Goals as goal

pub mode_at-requires : goal.mode_at-requires
mode_at-requires c =
    let self = c.args.self in
    omega (arith, table-long self.n self.modes.now self.permutation, c.requires)

pub returns-clause-bound : goal.returns-clause-bound
returns-clause-bound c =
    let self = c.args.self in
    omega (arith, c.mode_at.ensures, mode-below self.n self.modes.now self.permutation c.args.q c.requires)
