-- `resolve::whole::fuse_events` meets its contract: each pass by what it ensures.
-- Assumes nothing.
use Rattle.resolve.proofs.Wholes.{fuses}
use Rattle.resolve.proofs.whole.fuse_events.Goals as goal

pub returns : goal.returns
returns c = fuses _ _ _ _ _ _ _ _ _ _ c.run_pass.ensures c.run_pass-2.ensures c.begin.ensures c.resolve_all-t.ensures c.finish.ensures
