-- The laws of a search back, as a list that a tactic takes. Assumes nothing.
use Rattle.laws.proofs.Views.{seek_hit, seek-miss, seek-none}

pub ruleset searches = (seek_hit, seek-miss, seek-none)
