-- `pfaffian::pairs::bring` meets its contract, whether there is anything to exchange or not. Assumes nothing.
use Prim.Native.Nat.{◌+◌}
use native.Mathlib.Omega.{arith}
use Rattle.pfaffian.proofs.Pairing.{corner-exchanged}
use Rattle.real.proofs.Squares.{same_then}
use Rattle.pfaffian.proofs.pairs.bring.Goals as goal

pub returns-then-p-k : goal.returns-then-p-k
returns-then-p-k c =
    let rows = c.exchange_rows.ensures in
    let columns = c.exchange_columns.ensures in record {
      same = same_then _ _ _ rows.same columns.same;
      corner = corner-exchanged c.args.p (c.args.k + 1) c.args.k c.args.m.now.dim c.args.m.now.entries.now _ _ c.requires.rows.0 c.requires.rows.1 c.requires.k_le_p
          (omega arith) c.args.m.now.room rows.now (rw rows.same.dim at columns.now);
    }
