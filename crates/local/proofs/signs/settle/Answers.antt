-- `local::signs::settle` meets its contract: no sign is below zero, or the columns and then the rows are settled. Assumes nothing.
use mathlib.Core.Path.{sym, ◌∙◌}
use Rattle.local.proofs.Settling.{none_below, settled-none, settled-both}
use Rattle.local.proofs.SameSigned.{same_here, same_then}
use Rattle.local.proofs.signs.settle.Goals as goal

pub returns-then-any_below : goal.returns-then-any_below
returns-then-any_below c =
    let t = c.args.t.now in
    let columns = c.settle_columns.ensures in
    let rows = c.settle_rows.ensures in record {
      same = same_then _ _ _ columns.same rows.same;
      now = settled-both t.dim c.args.s c.args.k t.entries.now _ _ t.room columns.now (rw columns.same.dim at rows.now);
    }

pub returns-else-any_below : goal.returns-else-any_below
returns-else-any_below c =
    let e = c.args in
    let t = e.t.now in record {
      same = same_here _;
      now = settled-none t.dim e.s e.k t.entries.now t.room
          (none_below t.dim e.s e.k t.entries.now t.room c.requires (rw c.signs.ensures at (sym c.any_below.ensures ∙ c.if-any_below.false)));
    }
