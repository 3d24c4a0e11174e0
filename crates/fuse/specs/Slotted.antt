-- Relabelling in the lent work: the slot of qubit q is a mark of record q; gate k becomes the event of record k. Assumes nothing.
-- Only inner functions rest on this.
use Rattle.std.specs.Prelude.{◌≡◌, Bool, ℕ, ◌+◌, ◌<◌, ◌≤◌, length, Float}
use mathlib.Core.List.{List, Memᴰ}
use Rattle.laws.specs.Views.{list_of, down_to}
use Rattle.work.specs.Marks.{mark_at, put_mark}
use Rattle.work.specs.Columns.{kind_column, a_column, b_column, c_column, lab_column}
use Rattle.tape.specs.Bounds.{header_length}
use Rattle.tape.specs.Cursor.{Cursor}
use Rattle.tape.specs.Good.{GoodGate}
use Rattle.tape.specs.Parse.{gates_of}
use Rattle.tape.specs.declared.gates.Gate.{Gate}
use Rattle.fuse.specs.Layout.{Within, event_at}
use Rattle.work.specs.Marks.{exchanged_marks}
use Rattle.fuse.specs.Relabel.{Labelled, label, labelled, unlabelled}

-- the state after k gates
unfoldable pub labelled_at : List Float → List ℕ → ℕ → ℕ → ℕ → Labelled
labelled_at xs us n k swaps = record { lab = list_of n (λ q. mark_at us q lab_column); events = down_to (event_at xs us) k; swaps = swaps }

-- the slots of the qubits are slots
pub record Labels (us : List ℕ) (n : ℕ) : Type 0 where
  pub below : (q : ℕ) → q < n → mark_at us q lab_column < n

-- the marks of an event, and the slots of two qubits exchanged
unfoldable pub event_marks : List ℕ → ℕ → ℕ → ℕ → ℕ → ℕ → List ℕ
event_marks us k kind a b c = put_mark (put_mark (put_mark (put_mark us k kind_column kind) k a_column a) k b_column b) k c_column c

abbrev pub swapped_marks : List ℕ → ℕ → ℕ → List ℕ
swapped_marks us a b = exchanged_marks us a b lab_column

-- gate k has become event k; r more Swaps are renamings
pub record Labelling (relabel : Bool) (x : Gate) (xs ys : List Float) (us vs : List ℕ) (n k r : ℕ) : Type 0 where
  pub size : length ys ≡ length xs
  pub marks : length vs ≡ length us
  pub state : (swaps : ℕ) → labelled_at ys vs n (k + 1) (swaps + r) ≡ label relabel x (labelled_at xs us n k swaps)
  pub within : Within vs 0 (k + 1) n
  pub labels : Labels vs n
  pub few : r ≤ 1

-- an accepted tape of g gates on n qubits
pub record Gates (t : List ℕ) (g n : ℕ) : Type 0 where
  pub cursor : Cursor t 0 header_length
  pub count : g ≡ length (gates_of t)
  pub good : (x : Gate) → Memᴰ x (gates_of t) → GoodGate n x

-- all its gates have become events
pub record Relabelled (relabel : Bool) (t : List ℕ) (xs ys : List Float) (us vs : List ℕ) (g n r : ℕ) : Type 0 where
  pub size : length ys ≡ length xs
  pub marks : length vs ≡ length us
  pub state : labelled_at ys vs n g r ≡ labelled relabel (gates_of t) (unlabelled n)
  pub within : Within vs 0 g n
  pub few : r ≤ g

-- qubit q has slot q, for the first n
pub record Identity (us vs : List ℕ) (n : ℕ) : Type 0 where
  pub size : length vs ≡ length us
  pub each : (q : ℕ) → q < n → mark_at vs q lab_column ≡ q
