-- THE REGISTER CLAIM (demand 3): one claim about a whole tape, its run and a whole list of queries. The bit register is fed the n and the gate records of
-- the tape and nothing else (crate `register`, specs/Register.antt); it answers from its last bits (crate `basis`, specs/Answers.antt). The claim speaks
-- of what a run leaves in its caller's hands, so that it can be asked of any engine (specs/Engines.antt). Definitions only. A public promise rests on this.
use Rattle.std.specs.Prelude.{◌≡◌, true, ℕ, ◌*◌, ◌≤◌, length, Float}
use mathlib.Core.List.{List, Memᴰ}
use Rattle.laws.specs.Bounds.{op_places}
use Rattle.tape.specs.Parse.{accepted, Content, parse}
use Rattle.tape.specs.declared.header.Header.{Header}
use Rattle.tape.specs.declared.gates.Gate.{Gate}
use Rattle.detect.specs.Compile.{program_of}
use Rattle.detect.specs.Answers.{Compiled, number_of}
use Rattle.detect.specs.Questions.{has_work}
use Rattle.local.specs.Bounds.{state_places}
use Rattle.state.specs.Bounds.{dim_of}
use Rattle.register.specs.Register.{RegisterTape, PlainGate, register_bits}
use Rattle.claim.specs.Queries.{Query, Ask, answers, Begins, RightAnswers}
use Rattle.gaussian.specs.Run.{bytes_of}

-- ---- what a run leaves in its caller's hands

-- the number that it gives, 0 if it gives none; its n and its mode table; the state slice
pub record Left : Type 0 where
  pub number : ℕ
  pub n : ℕ
  pub modes : List ℕ
  pub state : List Float

-- of what `run` returns, and the state slice as it leaves it
abbrev pub left_by : Compiled → List Float → Left
left_by r s = record { number = number_of r.answer; n = r.report.n; modes = r.report.modes; state = s }

-- ---- the answers

-- "every query on the list is given these three", the slice, the run's n and its mode table; the register is fed the tape's
pub record RightRun (ask : Ask) (t : List ℕ) (x : Left) : Type 0 where
  pub header : Header
  pub content : Content
  -- the tape passes 1 to 8
  pub parsed : parse t ≡ accepted header content
  -- each answer is the register's, and a query is refused only where one of its own questions has no for an answer (`RightAnswers`); the table may be lent
  -- with whatever stands behind its first n entries
  pub right : (modes : List ℕ) → Begins header.n x.modes modes → (qs : List Query)
      → RightAnswers header.n (register_bits content.gates) qs (answers ask x.n x.state modes qs)

-- For every register tape t whose run is accepted, "those that give no number"
abbrev pub AnswersRight : Ask → List ℕ → Left → Type 0
AnswersRight ask t x = RegisterTape t → x.number ≡ 0 → RightRun ask t x

-- ---- which tapes must be accepted

-- "slices and limit suffice when 9, 10, 14 and 15 have yes for an answer": of slices of so many places
pub record Suffice (h : Header) (gs : List Gate) (work marks ops state : ℕ) : Type 0 where
  pub nine : has_work (length gs) h.n work marks ≡ true
  pub ten : op_places * length (program_of h gs) ≤ ops
  pub fourteen : bytes_of h.n ≤ h.limit
  pub fifteen : state_places (dim_of h.n) ≤ state

-- The last sentence: a register tape that passes 1 to 8, without Swap, with every pair q and q+1 in either order (`PlainGate`), where slices and limit
-- suffice. Any tolerance that passes 3 will do, 0 and -0.0 included
abbrev pub MustAccept : List ℕ → ℕ → ℕ → ℕ → ℕ → Left → Type 0
MustAccept t work marks ops state x =
    (h : Header) (c : Content) → parse t ≡ accepted h c → RegisterTape t → ((g : Gate) → Memᴰ g c.gates → PlainGate g)
    → Suffice h c.gates work marks ops state → x.number ≡ 0

-- ---- the whole claim, of a run on these bytes and slices

pub record RegisterClaim (ask : Ask) (t : List ℕ) (work : List Float) (marks : List ℕ) (ops state : List Float) (x : Left) : Type 0 where
  pub right : AnswersRight ask t x
  pub accepts : MustAccept t (length work) (length marks) (length ops) (length state) x
