-- `num::root::root_bits` meets its contract: `met` puts together what its parts ensure. Assumes nothing.
use Rattle.num.proofs.root.Fields.{met}
use Rattle.num.proofs.root.root_bits.Goals as goal

pub returns : goal.returns
returns c =
    let e = c.before.before in
    let p = e.before in
    met p.args.b p.parts-n.result.m p.parts-n.result.u e.evened-a.result c.nearest-r.result p.requires.1 p.parts-n.ensures e.evened-a.ensures c.nearest-r.ensures
