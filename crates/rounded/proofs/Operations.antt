-- Lists of operations are the formula at binary64 (specs/Operations.antt). Assumes nothing.
use mathlib.Core.Path.{◌≡◌, refl, sym, ap, ◌∙◌}
use mathlib.Core.Bool.{Bool, true, false, cond, ◌&&◌}
use mathlib.Core.List.{List, [], ◌∷◌, map}
use Prim.Native.Nat.{ℕ, ◌+◌, ◌*◌}
use native.Mathlib.Omega.{arith}
use Rattle.laws.specs.Lists.{in_order}
use Rattle.laws.specs.Matrix.{Mat}
use Rattle.laws.specs.Maps.{Local}
use Rattle.real.specs.Maps.{local2, local4}
use Rattle.local.specs.State.{State}
use Rattle.local.specs.Det.{odd}
use Rattle.local.specs.Apply.{step}
use Rattle.state.specs.Operation.{effect}
use Rattle.state.specs.declared.operation.Operation.{Operation}
use Rattle.state.specs.declared.operation.Operation.TheVariants.{One, Two, Interaction}
use Rattle.plain.specs.Plain.{turned_from, plain_step, plain}
use Rattle.formulas.specs.Engine.{later, rows as rows', cols as cols', negated as negated', step as step', effect as effect', run}
use Rattle.angles.specs.Postponed.{plain as plain', plain_effect, plainly}
use Rattle.rounded.specs.Floats.{floats, below_zero, float_odd, as_local, as_state}
use Rattle.rounded.specs.Operations.{item_of, RoundedOperations}
use Rattle.rounded.proofs.Determinants.{rounded-determinants}
use Rattle.rounded.proofs.Steps.{negated-is, under-is, rounded-steps}

-- ---- the engine

step-is : (o : Local) (t : State) → as_state (step odd o t) ≡ step' floats below_zero float_odd (as_local o) (as_state t)
step-is o t = (λ i. as_state (step (λ p. rounded-determinants.sign p i) o t)) ∙ rounded-steps.map float_odd o t

effect-is : (o : Operation) (t : State) → as_state (effect o t) ≡ effect' floats below_zero float_odd (item_of o) (as_state t)
unfolding effect
effect-is (One mode q) t = step-is (local2 (2 * mode) q) t
effect-is (Two mode q) t = step-is (local4 (2 * mode) q) t
effect-is (Interaction mode block second unit) t = refl

engine-is : (os : List Operation) (t : State) → as_state (in_order effect os t) ≡ run floats below_zero float_odd (map item_of os) (as_state t)
unfolding in_order
engine-is [] t = refl
engine-is (o ∷ os) t = engine-is os (effect o t) ∙ ap (run floats below_zero float_odd (map item_of os)) (effect-is o t)

-- ---- the plain engine, where s is the first index after the map's

plain-step-is : (o : Local) (s : ℕ) → o.start + o.width ≡ s → (p : Mat) → plain_step o s p ≡ plain' floats float_odd (as_local o) p
plain-step-is o s e p =
    let x = cols' floats (as_local o) (rows' floats (as_local o) p) in
    (λ i. cond (rounded-determinants.sign o i) (turned_from (sym e i) (under-is o p i)) (under-is o p i))
    ∙ by (float_odd (as_local o)) x
  where
    by : (b : Bool) (x : Mat) → cond b (turned_from (o.start + o.width) x) x ≡ negated' floats (λ i. b && later (as_local o) i) x
    by true x = negated-is (later (as_local o)) x
    by false x = refl

plain-is : (o : Operation) (p : Mat) → plain o p ≡ plain_effect floats float_odd (item_of o) p
unfolding plain
plain-is (One mode q) p = plain-step-is (local2 (2 * mode) q) (2 * (mode + 1)) (omega arith) p
plain-is (Two mode q) p = plain-step-is (local4 (2 * mode) q) (2 * (mode + 2)) (omega arith) p
plain-is (Interaction mode block second unit) p = refl

plainly-is : (os : List Operation) (p : Mat) → in_order plain os p ≡ plainly floats float_odd (map item_of os) p
unfolding in_order
plainly-is [] p = refl
plainly-is (o ∷ os) p = plainly-is os (plain o p) ∙ ap (plainly floats float_odd (map item_of os)) (plain-is o p)

pub rounded-operations : RoundedOperations
rounded-operations = record { engine = engine-is; plain_engine = plainly-is }
