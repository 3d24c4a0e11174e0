-- Question 9 and what it lends on, to `compile` and to `run`: the first places of work, as many as it names. Assumes nothing.
-- Only inner functions rest on this.
use Rattle.std.specs.Prelude.{◌≡◌, cond, List, ℕ, ◌≤◌, length, Float, Result, Ok, Err}
use Rattle.laws.specs.Bounds.{max_qubits}
use Rattle.work.specs.Sizes.{work_floats, work_marks}
use Rattle.tape.specs.Bounds.{max_gates}
use Rattle.tape.specs.declared.header.Header.{Header}
use Rattle.fuse.specs.Slotted.{Gates}
use Rattle.detect.specs.declared.lending.Parts.{Parts}
use Rattle.detect.specs.declared.refusal.Refusal.{Refusal}
use Rattle.detect.specs.declared.refusal.Refusal.TheVariants.{SmallWork}
use Rattle.detect.specs.Questions.{has_work}

-- the lengths of the parts that are lent on
abbrev pub parts_of : ℕ → ℕ → Parts
parts_of g n = record { floats = work_floats g n; marks = work_marks g n }

-- or the refusal by 9
abbrev pub lending_of : ℕ → ℕ → ℕ → ℕ → Result Parts Refusal
lending_of g n w u = cond (has_work g n w u) (Ok (parts_of g n)) (Err SmallWork)

-- a tape of g gates with the header h, which passes 1 to 8
pub record Read (t : List ℕ) (h : Header) (g : ℕ) : Type 0 where
  pub gates : Gates t g h.n
  pub qubits : h.n ≤ max_qubits
  pub few : g ≤ max_gates

-- and the slices that are lent on for it: exactly the work that 9 names
pub record Lent (t : List ℕ) (h : Header) (g : ℕ) (w : List Float) (u : List ℕ) : Type 0 where
  pub tape : Read t h g
  pub floats : length w ≡ work_floats g h.n
  pub marks : length u ≡ work_marks g h.n
