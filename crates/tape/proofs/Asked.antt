-- The lemmas on tests, under a short name. Assumes nothing.
use Rattle.std.proofs.lemmas.Bool.Decides.{nat_tests}

pub ruleset nat = (nat_tests)
