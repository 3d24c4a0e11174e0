-- The Pfaffian's number and its row, each alone; and `pfaffian` as 001 has it, which returns 0.0 where the search ended at zero, and of an odd dimension. The
-- definition with rows (specs/Pfaffian.antt) is held to that by `end-number` (Stops.antt): so it is written out again, and laws of the number are shown of it.
-- Assumes nothing.
use Rattle.std.specs.Prelude.{cond, Option, Some, None, ℕ, zero, suc, ◌/◌, ◌%◌, eqb, Float}
use Rattle.std.specs.Float.{binary64}
use Rattle.std.specs.Float.Ieee.{mul, neg, eq}
use Rattle.laws.specs.Zeros.{+0, +1}
use Rattle.laws.specs.Matrix.{Mat}
use Rattle.pfaffian.specs.declared.pairs.End.{End}
use Rattle.pfaffian.specs.declared.pairs.End.TheVariants.{Value, Stopped}
use Rattle.pfaffian.specs.Pfaffian.{pivot_of, pivoted, less}

-- its number, which is 0.0 at a stop
abbrev pub number_of : End → Float
number_of (Value x) = x
number_of (Stopped k) = +0

-- its row, if it stopped
abbrev pub row_of : End → Option ℕ
row_of (Value x) = None
row_of (Stopped k) = Some k

-- ---- 001's

-- p pairs from k on, with `acc` so far
unfoldable pub pf : Mat → ℕ → ℕ → ℕ → Float → Float
pf a zero k dim acc = acc
pf a (suc p) k dim acc =
    let s = pivot_of (a k) k dim in
    let b = pivoted s.1 (suc k) a in
    let r = pf (less k b) p (suc (suc k)) dim (mul binary64 (cond (eqb s.1 (suc k)) acc (neg acc)) (b k (suc k))) in
    cond (eq s.0 +0) +0 r

unfoldable pub pfaffian_number : ℕ → Mat → Float
pfaffian_number dim a = cond (eqb (dim % 2) 1) +0 (pf a (dim / 2) 0 dim +1)
