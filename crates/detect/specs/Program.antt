-- What the lent work holds once the report is made: the items, the mode of each wire and, if no block is bad, the operations of the matchgates.
-- Assumes nothing. Only inner functions rest on this.
use Rattle.std.specs.Prelude.{◌≡◌, true, List, ℕ, ◌+◌, ◌<◌, Float}
use Rattle.tape.specs.declared.header.Header.{Header}
use Rattle.tape.specs.declared.gates.Gate.{Gate}
use Rattle.detect.specs.declared.report.Report.{Report}
use Rattle.resolve.specs.Items.{ItemsBelow}
use Rattle.detect.specs.Records.{items_in, modes_in}
use Rattle.detect.specs.Kept.{Kept}
use Rattle.detect.specs.Compile.{items_of, mode_of_wire, reported_of}

pub record Detected (h : Header) (gs : List Gate) (g : ℕ) (ys : List Float) (vs : List ℕ) (r : Report) : Type 0 where
  pub report : r ≡ reported_of h gs
  pub items : items_in ys vs (g + h.n) ≡ (items_of h gs).items
  pub modes : (w : ℕ) → w < h.n → modes_in vs w ≡ mode_of_wire h gs w
  pub below : ItemsBelow h.n (items_in ys vs (g + h.n))
  pub kept : r.free ≡ true → Kept ys vs (g + h.n)
