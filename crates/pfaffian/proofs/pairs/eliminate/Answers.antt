-- `pfaffian::pairs::eliminate` meets its contract, by the law `eliminated`. Assumes nothing.
use Rattle.pfaffian.proofs.Elimination.{eliminated}
use Rattle.real.proofs.Squares.{same_then}
use Rattle.pfaffian.proofs.pairs.eliminate.Goals as goal

pub returns : goal.returns
returns c =
    let scales = c.scale_row.ensures in
    let sweeps = c.eliminate_rows.ensures in record {
      same = same_then _ _ _ scales.same sweeps.same;
      corner = eliminated c.args.m.now.dim c.args.k c.args.m.now.entries.now _ _ _ c.requires c.args.m.now.room c.entry-akk.ensures
          scales.now (rw scales.same.dim at sweeps.now);
    }
