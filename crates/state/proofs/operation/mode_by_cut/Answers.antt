-- `state::operation::mode_by_cut` meets its contract, by its tests. Assumes nothing.
use Rattle.std.proofs.Common.{T, sym, subst}
use lib.Ieee.{of_bits, neg}
use Rattle.state.proofs.operation.mode_by_cut.Goals as goal

pub truncating_f64_to_u64-k-requires : goal.truncating_f64_to_u64-k-requires
unfolding of_bits neg
truncating_f64_to_u64-k-requires c =
    record { lower_bound = subst T (sym c.if-x.true) tt; upper_bound = subst T (sym c.if-x-2.true) tt }
