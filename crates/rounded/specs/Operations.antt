-- WHAT IT MEANS THAT LISTS OF OPERATIONS ARE THE FORMULA, ROUNDED: what an operation does to the engine's state (crate `state`) and to the plain engine's
-- matrix (crate `plain`), and so what a list of them does, is what crates `formulas` and `angles` say, at binary64. All floats are meant, and every bit.
-- Definitions only. A public promise rests on this.
use Rattle.std.specs.Prelude.{◌≡◌, List, map, ℕ, ◌*◌, Float}
use Rattle.std.specs.List.{filter_map}
use Rattle.laws.specs.Lists.{in_order}
use Rattle.laws.specs.Matrix.{Mat}
use Rattle.real.specs.Maps.{local2, local4}
use Rattle.local.specs.State.{State}
use Rattle.state.specs.Operation.{decode_of, effect}
use Rattle.state.specs.declared.operation.Operation.{Operation}
use Rattle.state.specs.declared.operation.Operation.TheVariants.{One, Two, Interaction}
use Rattle.plain.specs.Plain.{plain}
use Rattle.formulas.specs.Engine.{Local as LocalOf, Item, applied, interaction, run}
use Rattle.angles.specs.Postponed.{plainly}
use Rattle.rounded.specs.Floats.{floats, below_zero, float_odd, as_local, as_state}

-- an operation as an item of the formula's list
abbrev pub item_of : Operation → Item (LocalOf floats)
item_of (One mode q) = applied (as_local (local2 (2 * mode) q))
item_of (Two mode q) = applied (as_local (local4 (2 * mode) q))
item_of (Interaction mode block second unit) = interaction

-- the operations that stand in slices, in order, without those that question 17 turns down
abbrev pub items_in : ℕ → List (List Float) → List (Item (LocalOf floats))
items_in n ops = map item_of (filter_map (decode_of n) ops)

pub record RoundedOperations : Type 0 where
  pub engine : (os : List Operation) (t : State) → as_state (in_order effect os t) ≡ run floats below_zero float_odd (map item_of os) (as_state t)
  pub plain_engine : (os : List Operation) (p : Mat) → in_order plain os p ≡ plainly floats float_odd (map item_of os) p
