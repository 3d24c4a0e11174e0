-- THE SIGNS ON A RUN (promise 4): no accepted run loses a sign. Where the operations of a run, as they stand in the caller's slice afterwards, come from
-- blocks that take Pauli strings to signed Pauli strings (crate `signs`, specs/Blocks.antt), quantum mechanics pulls an observable back through the blocks,
-- the last one first, and takes its value in |0..0> (specs/Paulis.antt). The claim is that the run's state and its parities have these values. It
-- speaks of what a run leaves in its caller's hands, so that it can be asked of any engine. Definitions only. A public promise rests on this.
use Rattle.std.specs.Prelude.{◌≡◌, true, List, map, ℕ, ◌*◌, ◌<◌, Float}
use Rattle.laws.specs.Zeros.{nz}
use Rattle.laws.specs.Tables.{mode_at}
use Rattle.state.specs.Answers.{Told}
use Rattle.queries.specs.Calls.{covariance_of}
use Rattle.signs.specs.Paulis.{Str, Value, float, expectation}
use Rattle.signs.specs.Majoranas.{gamma, paired, zs}
use Rattle.signs.specs.Circuits.{BlockOp, pulled}
use Rattle.signs.specs.Signs.{StandIn}
use Rattle.evolve.specs.Evolve.{held_in}
use Rattle.claim.specs.Questions.{product_passes}
use Rattle.claim.specs.Queries.{product, Ask, Begins}
use Rattle.gaussian.specs.Claim.{Left}

-- the value of an operator after the blocks, on n modes
abbrev pub value_after : ℕ → List BlockOp → Str → Value
value_after n xs s = expectation n (pulled xs s)

-- what entry (r, c) of the covariance is the value of: -i times two Majorana operators
abbrev pub entry_of : ℕ → ℕ → ℕ → Str
entry_of n r c = paired n (gamma r) (gamma c)

-- Z of each of the listed qubits, on the modes that the table gives them
abbrev pub parity_of : List ℕ → List ℕ → Str
parity_of modes qs = zs (map (mode_at modes) qs)

-- what is told to a product query, where quantum mechanics has the value v
pub record RightParity (n : ℕ) (qs : List ℕ) (work : List Float) (v : Value) (t : Told) : Type 0 where
  -- refused only where one of its own questions has no for an answer
  pub answered : product_passes n qs work ≡ true → t.number ≡ 0
  -- an answer, which gives no number, is the value, zero signs aside
  pub right : t.number ≡ 0 → nz t.value ≡ float v

-- of a run that left its n, its mode table and its state, after the blocks xs
pub record RightSigns (ask : Ask) (x : Left) (xs : List BlockOp) : Type 0 where
  -- every entry of the covariance
  pub covariance : (r c : ℕ) → r < 2 * x.n → c < 2 * x.n → nz (covariance_of x.n x.state r c) ≡ float (value_after x.n xs (entry_of x.n r c))
  -- every product query on the state; the table may be lent with whatever stands behind its first n entries
  pub parities : (modes : List ℕ) → Begins x.n x.modes modes → (qs : List ℕ) (work : List Float)
      → RightParity x.n qs work (value_after x.n xs (parity_of modes qs)) (ask x.n x.state modes (product qs work)).told

-- k operations are in the slice ops, and if blocks stand for them (interactions are passed over), the answers are the blocks'
abbrev pub SignsRight : Ask → Left → ℕ → List Float → Type 0
SignsRight ask x k ops = (xs : List BlockOp) → StandIn x.n xs (held_in k ops) → RightSigns ask x xs

-- THE CLAIM, of every run that gave no number
abbrev pub SignClaim : Ask → Left → ℕ → List Float → Type 0
SignClaim ask x k ops = x.number ≡ 0 → SignsRight ask x k ops
