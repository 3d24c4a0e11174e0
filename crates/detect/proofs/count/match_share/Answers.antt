-- `detect::count::match_share` meets its contract: of neighbours the operation is kept. Assumes nothing.
use Rattle.detect.specs.Kept.{match_kept}
use Rattle.detect.proofs.count.match_share.Goals as goal

pub returns-then-beside-clause-kept : goal.returns-then-beside-clause-kept
unfolding match_kept
returns-then-beside-clause-kept c =
    let kept = rw (c.two_places.ensures, c.lower.ensures, c.majorana_map2-m.ensures, c.oriented.ensures) at c.put_places.ensures.put in
    rw (← c.beside.ensures, c.if-beside.true) kept

pub returns-clause-kept : goal.returns-clause-kept
unfolding match_kept
returns-clause-kept c = rw (← c.beside.ensures, c.if-beside.false)
