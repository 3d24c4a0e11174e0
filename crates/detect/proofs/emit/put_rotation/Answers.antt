-- `detect::emit::put_rotation` meets its contract. Assumes nothing.
use mathlib.Core.Path.{ap}
use native.Mathlib.Omega.{arith}
use lib.ListN.{length}
use Rattle.detect.proofs.Emitting.{by-long, put-by, put-nothing}
use Rattle.detect.proofs.emit.put_rotation.Goals as goal

pub put-requires : goal.put-requires
put-requires c = (ap length c.one_places.ensures, omega (arith, c.requires, by-long c.args.k c.args.x c.in-Some.is))

pub returns-in-Some : goal.returns-in-Some
returns-in-Some c =
    let a = c.args in
    rw c.put.ensures.count (put-by a.k a.x c.in-Some.is 0 a.ops.now c.put.new.l c.one_places.result c.one_places.ensures c.put.ensures.put)

pub returns-in-None : goal.returns-in-None
returns-in-None c = put-nothing c.args.k c.args.x 0 c.args.ops.now c.in-None.is
