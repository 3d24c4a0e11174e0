-- What resolving promises, said of the lent work. Assumes nothing. Only inner functions rest on this.
use Rattle.std.specs.Prelude.{Bool, ℕ, Float}
use Rattle.work.specs.Lent.{Lent, MarksOnly, FloatsOnly, SameSizes}
use Rattle.resolve.specs.declared.settle.Tally.{Tally}
use Rattle.resolve.specs.Choose.{Choice}
use Rattle.resolve.specs.Resolve.{Rest}
use Rattle.resolve.specs.Slots.{rest_at, Prefixes, OnePassed, ThreeClosed, TwoSettled, counted, Dealt, AllDealt, Begun, Finished}
use Rattle.resolve.specs.Whole.{Whole}

-- the remainder of slot s
abbrev pub rest_of : Lent → ℕ → Rest
rest_of w s = rest_at w.floats w.marks w.gates s

-- the tail on s from gate k on, of r gates: what each cut takes stands in the rows
pub record StoresPrefixes (w v : Lent) (k s row r : ℕ) : Type 0 where
  pub rest : FloatsOnly w v
  pub prefixes : Prefixes w.floats v.floats w.marks k w.gates s row r

-- event i has been dealt with: it was a one-qubit gate
pub record PassesOne (w v : Lent) (i : ℕ) : Type 0 where
  pub sizes : SameSizes w v
  pub passed : OnePassed w.floats v.floats w.marks v.marks w.gates w.slots i

-- it was an opaque block
pub record ClosesThree (w v : Lent) (i : ℕ) : Type 0 where
  pub rest : MarksOnly w v
  pub closed : ThreeClosed w.floats w.marks v.marks w.gates w.slots i

-- it was a two-qubit block with the choice x that was made for it, whatever was tried for that
pub record SettlesTwo (x : Choice) (w v : Lent) (i : ℕ) : Type 0 where
  pub sizes : SameSizes w v
  pub settled : (tried : ℕ) (angled : Bool) (t : Tally)
      → TwoSettled tried x angled w.floats v.floats w.marks v.marks w.gates w.slots i t (counted x.class.swap tried angled t)

-- event i has been dealt with by the definition's step
pub record Deals (relabel : Bool) (tol : Float) (w v : Lent) (i : ℕ) (t t' : Tally) : Type 0 where
  pub sizes : SameSizes w v
  pub dealt : Dealt relabel tol w.floats v.floats w.marks v.marks w.gates w.slots i t t'

-- so have all events
pub record DealsAll (relabel : Bool) (tol : Float) (w v : Lent) (t t' : Tally) : Type 0 where
  pub sizes : SameSizes w v
  pub all : AllDealt relabel tol w.floats v.floats w.marks v.marks w.gates w.slots t t'

-- the slots are as before the first event
pub record Begins (w v : Lent) : Type 0 where
  pub rest : MarksOnly w v
  pub begun : Begun w.floats w.marks v.marks w.gates w.slots

-- the remainders have become items
pub record Finishes (w v : Lent) : Type 0 where
  pub rest : MarksOnly w v
  pub finished : (t : Tally) → Finished w.floats w.marks v.marks w.gates w.slots t

-- fusing as a whole, with so many explicit Swaps made renamings before
pub record Fuses (relabel : Bool) (tol : Float) (w v : Lent) (swaps : ℕ) (t : Tally) : Type 0 where
  pub sizes : SameSizes w v
  pub whole : Whole relabel tol w.floats v.floats w.marks v.marks w.gates w.slots swaps t
