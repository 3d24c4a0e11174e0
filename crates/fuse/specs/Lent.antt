-- What relabelling and the passes promise, said of the lent work. Assumes nothing. Only inner functions rest on this.
use Rattle.std.specs.Prelude.{Bool, List, ℕ, ◌<◌}
use Rattle.gate.specs.declared.matrix.Mat4.{Mat4}
use Rattle.tape.specs.declared.gates.Gate.{Gate}
use Rattle.work.specs.Lent.{Lent, MarksOnly, SameSizes}
use Rattle.fuse.specs.Events.{Event}
use Rattle.fuse.specs.Layout.{Within, Cleared, Joined, Stepped, Passed}
use Rattle.fuse.specs.Slotted.{Labels, Labelling, Identity, Relabelled}

-- the slots of the gates from i on are slots
abbrev pub SlotsFrom : Lent → ℕ → Type 0
SlotsFrom w i = Within w.marks i w.gates w.slots

-- from k up to i the one-qubit gates on a or b are taken away
pub record Clears (w v : Lent) (k i a b : ℕ) : Type 0 where
  pub rest : MarksOnly w v
  pub cleared : Cleared w.marks v.marks k i a b

-- the block t on (c, d) takes the one-qubit gates on its slots from t + 1 up to i, and then the gate i, whose matrix in its orientation is m
pub record Joins (w v : Lent) (t i c d : ℕ) (m : Mat4) : Type 0 where
  pub sizes : SameSizes w v
  pub joined : Joined w.floats v.floats w.marks v.marks t i c d m

-- event i is put to those before it by f
pub record Steps (f : Event → List Event → List Event) (w v : Lent) (i : ℕ) : Type 0 where
  pub sizes : SameSizes w v
  pub stepped : Stepped f w.floats v.floats w.marks v.marks i

-- the first i events have gone through F
pub record Passes (F : List Event → List Event) (w v : Lent) (i : ℕ) : Type 0 where
  pub sizes : SameSizes w v
  pub passed : Passed F w.floats v.floats w.marks v.marks i

-- the first k gates are events, and gate k is the next
pub record Next (w : Lent) (k : ℕ) : Type 0 where
  pub left : k < w.gates
  pub labels : Labels w.marks w.slots
  pub within : Within w.marks 0 k w.slots

-- gate k has become event k; r more Swaps are renamings
pub record LabelsGate (relabel : Bool) (x : Gate) (w v : Lent) (k r : ℕ) : Type 0 where
  pub sizes : SameSizes w v
  pub labelling : Labelling relabel x w.floats v.floats w.marks v.marks w.slots k r

-- qubit q has slot q, for the first n
pub record Identifies (w v : Lent) (n : ℕ) : Type 0 where
  pub rest : MarksOnly w v
  pub identity : Identity w.marks v.marks n

-- all gates of an accepted tape have become events
pub record Relabels (relabel : Bool) (t : List ℕ) (w v : Lent) (r : ℕ) : Type 0 where
  pub sizes : SameSizes w v
  pub relabelled : Relabelled relabel t w.floats v.floats w.marks v.marks w.gates w.slots r
