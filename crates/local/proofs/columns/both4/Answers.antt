-- `local::columns::both4` meets its contract: one step after the other. Assumes nothing.
use mathlib.Core.Path.{◌≡◌, ◌∙◌}
use borrow.Author.Rules.{rules}
use Rattle.laws.specs.Matrix.{at}
use Rattle.laws.specs.Maps.{rows, cols}
use Rattle.laws.proofs.Matrix.{matrix-then}
use Rattle.laws.proofs.Maps.{cols-within}
use Rattle.real.specs.Maps.{local4}
use Rattle.local.proofs.columns.both4.Goals as goal

pub returns : goal.returns
returns c =
    let o = local4 c.args.s c.args.q in
    let dim = c.args.dim in
    let a = c.args.a.now in
    let columns = rw c.rows4.ensures.same.dim at c.columns4.ensures.now in
    let left : _ ≡ c.columns4.new.m.entries.now = search rules in
    left ∙ matrix-then dim a _ _ (rows o (at dim a)) (cols o) c.requires.room (cols-within o dim c.requires.band) c.rows4.ensures.now columns
