-- Relabelling (000, `fuse`): with flag bit 0 an explicit Swap, code 12 and no given matrix, only renames: the slots of its two qubits change places. Every
-- other gate becomes an event on the slots that its qubits then have. Assumes nothing. A public promise rests on this.
use Rattle.std.specs.Prelude.{Bool, cond, ◌&&◌, List, [], ◌∷◌, ℕ, ◌+◌, eqb, get_or}
use Rattle.laws.specs.Slices.{traded}
use Rattle.laws.specs.Views.{list_of}
use Rattle.tape.specs.declared.gates.Gate.{Gate}
use Rattle.tape.specs.declared.gates.Gate.TheVariants.{One, Two, Three}
use Rattle.fuse.specs.Events.{Event, gone, one, two, three}

-- "12 Swap"
abbrev pub swap_code : ℕ
swap_code = 0x12

-- the slot of each qubit (000, `lab`), the events so far, the newest first, and the Swaps that were renamings
pub record Labelled : Type 0 where
  pub lab : List ℕ
  pub events : List Event
  pub swaps : ℕ

-- one event more
abbrev pub put : Event → Labelled → Labelled
put e s = record { lab = s.lab; events = e ∷ s.events; swaps = s.swaps }

-- a Swap that is a renaming
abbrev pub swapped : ℕ → ℕ → Labelled → Labelled
swapped a b s = record { lab = traded 0 a b s.lab; events = gone ∷ s.events; swaps = s.swaps + 1 }

-- the slot of a qubit
abbrev pub slot_of : Labelled → ℕ → ℕ
slot_of s q = get_or s.lab q 0

abbrev pub label : Bool → Gate → Labelled → Labelled
label relabel (One code q m) s = put (one (slot_of s q) m) s
label relabel (Two code a b m) s = cond (relabel && eqb code swap_code) (swapped a b s) (put (two (slot_of s a) (slot_of s b) m) s)
label relabel (Three a b c) s = put (three (slot_of s a) (slot_of s b) (slot_of s c)) s

-- the gates in the tape's order
unfoldable pub labelled : Bool → List Gate → Labelled → Labelled
labelled relabel [] s = s
labelled relabel (x ∷ xs) s = labelled relabel xs (label relabel x s)

-- before the first gate: qubit q has slot q
unfoldable pub unlabelled : ℕ → Labelled
unlabelled n = record { lab = list_of n (λ q. q); events = []; swaps = 0 }
