-- `order::edges::add` meets its contract: an edge that is there grows, and a new one is appended. Assumes nothing.
use mathlib.Core.Path.{refl}
use native.Mathlib.Omega.{arith}
use Rattle.order.proofs.Chains.{found-few}
use Rattle.order.proofs.EdgeSteps.{add-grows, add-appends}
use Rattle.order.proofs.edges.add.Goals as goal

pub grow-requires : goal.grow-requires
grow-requires c =
    let few = found-few _ _ _ _ c.in-Some.ensures in
    (omega arith, c.requires.2 _ (omega arith))

pub returns-in-Some : goal.returns-in-Some
returns-in-Some c = record {
  same = c.grow.ensures.same;
  added = add-grows _ _ _ _ _ c.in-Some.ensures c.requires.3 (omega arith) _ _ refl c.grow.ensures.now;
}

pub returns : goal.returns
returns c = record {
  same = c.append.ensures.same;
  added = add-appends _ _ _ _ _ c.in_default.ensures c.requires.3 (omega arith) _ (omega arith) c.requires.1 refl c.append.ensures.now;
}
