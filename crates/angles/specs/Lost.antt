-- ENGINES THAT LOSE A SIGN, over any numbers: the engine's step with its two tests as parameters, which indices turn where a determinant is below zero, and
-- which are settled. With the engine's own tests it is the engine (law `own-tests`); with others it is wrong in one way. What is said of each wrong one:
-- there are exact numbers and an angle at which it gives another Z than quantum mechanics. Definitions only. A public promise rests on this.
use Rattle.std.specs.Prelude.{◌≡◌, Bool, false, cond, ◌&&◌, ℕ, ◌+◌, leb, ltb}
use Rattle.rings.specs.Rings.{Ops}
use Rattle.formulas.specs.Numbers.{Exact}
use Rattle.formulas.specs.Engine.{Local, State, applied, interaction, Engine, later, rows, cols, negated, unsettled, effect}
use Rattle.formulas.specs.Determinants.{odd}
use Rattle.angles.specs.Qubits.{Operators}
use Rattle.angles.specs.Angles.{RightEngine}

abbrev pub Turns : Ops → Type 0
Turns 𝓝 = Local 𝓝 → ℕ → Bool

abbrev pub Settles : Ops → Type 0
Settles 𝓝 = Local 𝓝 → (ℕ → 𝓝.N) → ℕ → Bool

module _ (𝓝 : Ops) (below : 𝓝.N → Bool) where
  abbrev pub step_with : Turns 𝓝 → Settles 𝓝 → Local 𝓝 → State 𝓝 → State 𝓝
  step_with turns settles o t =
      let calm : ℕ → 𝓝.N = λ i. cond (settles o t.d i) 𝓝.one (t.d i) in record {
        m = cols 𝓝 o (rows 𝓝 o (negated 𝓝 (settles o t.d) t.m));
        d = λ i. cond (odd 𝓝 below o && turns o i) (𝓝.neg (calm i)) (calm i);
      }

  abbrev pub engine_with : Turns 𝓝 → Settles 𝓝 → Engine 𝓝
  engine_with turns settles (applied o) t = step_with turns settles o t
  engine_with turns settles interaction t = t

-- engines over whatever numbers
abbrev pub Engines : Type 1
Engines = (𝓝 : Ops) → (𝓝.N → Bool) → Engine 𝓝

-- the engine's own tests
abbrev pub own_engine : Engines
own_engine 𝓝 below = engine_with 𝓝 below later (unsettled 𝓝 below)

-- THE STATEMENT: with them it is the engine
abbrev pub OwnTests : Type 1
OwnTests = (𝓝 : Ops) (below : 𝓝.N → Bool) → own_engine 𝓝 below ≡ effect 𝓝 below (odd 𝓝 below)

-- ---- wrong ones

-- it never turns
abbrev pub no_turn : Engines
no_turn 𝓝 below = engine_with 𝓝 below (λ o i. false) (unsettled 𝓝 below)

-- it turns from its own rows on
abbrev pub own_turn : Engines
own_turn 𝓝 below = engine_with 𝓝 below (λ o i. leb o.start i) (unsettled 𝓝 below)

-- it does not settle
abbrev pub no_settling : Engines
no_settling 𝓝 below = engine_with 𝓝 below later (λ o d i. false)

-- it turns the next mode only
abbrev pub next_turn : Engines
next_turn 𝓝 below = engine_with 𝓝 below (λ o i. later o i && ltb i (o.start + o.width + 2)) (unsettled 𝓝 below)

-- ---- what is said of them

-- numbers and operators over which an engine is not right
pub record Refuted (e : Engines) : Type 1 where
  pub numbers : Ops
  pub below : numbers.N → Bool
  pub exact : Exact numbers below
  pub n : ℕ
  pub matrices : Ops
  pub operators : Operators numbers exact.i n matrices
  pub wrong : RightEngine operators (e numbers below) → ⊥

-- THE STATEMENT: each is refuted
pub record AnglesRefute : Type 1 where
  pub lost : Refuted no_turn
  pub own : Refuted own_turn
  pub unsettled : Refuted no_settling
  pub next : Refuted next_turn
