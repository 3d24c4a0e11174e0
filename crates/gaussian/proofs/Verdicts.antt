-- What the answer yes to each of the questions 10 to 15 says, in both directions. Assumes nothing.
use mathlib.Core.Path.{◌≡◌, refl}
use mathlib.Core.Bool.{Bool, true, false, cond}
use Prim.Native.Nat.{ℕ, ◌*◌, ◌≤◌, ◌<◌}
use native.Mathlib.Omega.{arith}
use lib.Dec.{ltb}
use borrow.Author.Tests.{le-ltb, ltb-false, eq-eqb}
use Rattle.laws.specs.Bounds.{op_places}
use Rattle.tape.specs.declared.header.Header.{Header}
use Rattle.detect.specs.declared.report.Report.{Report}
use Rattle.local.specs.Bounds.{state_places}
use Rattle.state.specs.Bounds.{dim_of}
use Rattle.gaussian.specs.Run.{all_apart, interacts, bytes_of, verdict_of}

-- the questions 10 to 15 are answered yes, for k operations; with no bad blocks 11 is
pub record Passes (h : Header) (r : Report) (k o s : ℕ) : Type 0 where
  pub operations : op_places * k ≤ o
  pub free : r.bad ≡ 0
  pub interactions : interacts h r ≡ false
  pub limit : bytes_of h.n ≤ h.limit
  pub state : state_places (dim_of h.n) ≤ s

-- a chain of tests gives 0 only past the first
past : (t : Bool) (k x : ℕ) → 0 < k → cond t k x ≡ 0 → (t ≡ false) × (x ≡ 0)
past true k x h e = absurd (omega (arith, e))
past false k x h e = (refl, e)

module _ (h : Header) (r : Report) (k o s : ℕ) where
  pub verdict-passes : verdict_of h r k o s ≡ 0 → Passes h r k o s
  unfolding verdict_of
  verdict-passes e =
      let ten = past (ltb o (op_places * k)) 10 _ (omega arith) e in
      let eleven = past (all_apart r) 11 _ (omega arith) ten.1 in
      let twelve = past (ltb 0 r.bad) 12 _ (omega arith) eleven.1 in
      let thirteen = past (interacts h r) 13 _ (omega arith) twelve.1 in
      let fourteen = past (ltb h.limit (bytes_of h.n)) 14 _ (omega arith) thirteen.1 in
      let fifteen = past (ltb s (state_places (dim_of h.n))) 15 0 (omega arith) fourteen.1 in record {
        operations = ltb-false o (op_places * k) ten.0;
        free = omega (arith, ltb-false 0 r.bad twelve.0);
        interactions = thirteen.0;
        limit = ltb-false h.limit (bytes_of h.n) fourteen.0;
        state = ltb-false s (state_places (dim_of h.n)) fifteen.0;
      }

  pub passes-verdict : Passes h r k o s → verdict_of h r k o s ≡ 0
  unfolding verdict_of all_apart
  passes-verdict p =
      rw (
        le-ltb o (op_places * k) p.operations,
        eq-eqb r.bad 0 p.free,
        le-ltb 0 r.bad (omega (arith, p.free)),
        p.interactions,
        le-ltb h.limit (bytes_of h.n) p.limit,
        le-ltb s (state_places (dim_of h.n)) p.state,
      )
