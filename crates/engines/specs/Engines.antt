-- Engines that the register claim is asked of: the engine's own run and answers, and some that are wrong in one way each. Assumes nothing.
-- A public promise rests on this.
use Rattle.std.specs.Prelude.{cond, List, [], ℕ, eqb, ltb, length, take, Float}
use Rattle.laws.specs.Zeros.{+1}
use Rattle.detect.specs.Operation.{Operation}
use Rattle.local.specs.State.{State}
use Rattle.state.specs.Answers.{accepted, refused}
use Rattle.state.specs.Questions.{state_ok}
use Rattle.queries.specs.Lists.{bad_place, bits_ok, stop_place}
use Rattle.queries.specs.Calls.{stopped_of}
use Rattle.evolve.specs.Evolve.{evolved}
use Rattle.claim.specs.Queries.{Query, product, marginal, probability, sample, Ask, number, answer}
use Rattle.gaussian.specs.Run.{state_by, asked, ran}
use Rattle.gaussian.specs.Claim.{Left, left_by, RegisterClaim}

-- what a run of a tape leaves, given its bytes and the lent slices (work, marks, operations, state); and what a query is given
pub record Engine : Type 0 where
  pub run : List ℕ → List Float → List ℕ → List Float → List Float → Left
  pub ask : Ask

-- THE CLAIM of an engine: for every tape and all slices
abbrev pub Claimed : Engine → Type 0
Claimed e = (t : List ℕ) (work : List Float) (marks : List ℕ) (ops state : List Float)
    → RegisterClaim e.ask t work marks ops state (e.run t work marks ops state)

-- ---- runs that differ in the state only: f makes of the program what is applied to the vacuum

abbrev pub altered : (List Operation → List Operation) → ℕ → List Operation → State
altered f n os = evolved n (f os)

abbrev pub run_by : (List Operation → List Operation) → List ℕ → List Float → List ℕ → List Float → List Float → Left
run_by f t work marks ops state = left_by (ran t work marks ops state) (state_by (altered f) (asked t work marks ops state) state)

-- the engine's run, which applies the whole program, with some answers
abbrev pub asked_by : Ask → Engine
asked_by ask = record { run = run_by (λ os. os); ask = ask }

-- its own
abbrev pub own_engine : Engine
own_engine = asked_by answer

-- ---- wrong ones

-- "One holding the vacuum for every tape"
abbrev pub vacuum_engine : Engine
vacuum_engine = record { run = run_by (λ os. []); ask = answer }

-- "one applying the first operation only"
abbrev pub first_engine : Engine
first_engine = record { run = run_by (take 1); ask = answer }

-- "one giving one parity for all"
abbrev pub one_parity : Ask
one_parity n s modes (product qs w) = number (accepted +1)
one_parity n s modes (marginal qs xs w) = answer n s modes (marginal qs xs w)
one_parity n s modes (probability low high w) = answer n s modes (probability low high w)
one_parity n s modes (sample shots draws w out) = answer n s modes (sample shots draws w out)

abbrev pub parity_engine : Engine
parity_engine = asked_by one_parity

-- "one answering 12 always"
abbrev pub twelve_engine : Engine
twelve_engine = record { run = λ t work marks ops state. record { number = 12; n = 0; modes = []; state = state }; ask = answer }

-- one whose question 20 always has no for an answer. What is asked before it, 16, 18 and 19, and where a contradiction stops a list, is the engine's
abbrev pub never_room : Ask
never_room n s modes (product qs w) =
    let place = bad_place n qs in
    number (cond (state_ok n s modes) (cond (ltb place (length qs)) (refused 19 place) (refused 20 0)) (refused 16 0))
never_room n s modes (marginal qs xs w) =
    let place = stop_place n modes qs xs in
    let list = cond (ltb place (length qs)) (stopped_of n qs place) (refused 20 0) in
    number (cond (state_ok n s modes) (cond (bits_ok qs xs) list (refused 18 0)) (refused 16 0))
never_room n s modes (probability low high w) = number (cond (state_ok n s modes) (refused 20 0) (refused 16 0))
never_room n s modes (sample shots draws w out) = record { told = cond (state_ok n s modes) (refused 20 0) (refused 16 0); out = out }

-- the kinds of queries
abbrev pub kind : Query → ℕ
kind (product qs w) = 0
kind (marginal qs xs w) = 1
kind (probability low high w) = 2
kind (sample shots draws w out) = 3

-- the same to the queries of kind k; the others it answers as the engine does
abbrev pub no_room : ℕ → Ask
no_room k n s modes q = cond (eqb (kind q) k) (never_room n s modes q) (answer n s modes q)
