-- Wrong engines that the sign theorem refuses, each by a worked row: one that never turns a sign, one that turns from its own rows on, one that does
-- not settle, and one that turns the next mode only. Each is the engine with one test exchanged (specs/Engines.antt). Assumes nothing.
use mathlib.Core.Path.{◌≡◌, refl, sym, ap, ◌∙◌, subst}
use mathlib.Core.List.{List}
use Prim.Native.Nat.{ℕ, ◌<◌}
use lib.Dec.{lit<}
use lib.Ieee.{neg, lt, add, sub, mul, div, le, eq, is_nan}
use Rattle.laws.specs.Lists.{in_order}
use Rattle.laws.specs.Views.{up_from}
use Rattle.laws.specs.Maps.{dot}
use Rattle.num.specs.Order.{abs_of}
use Rattle.local.specs.State.{State, vacuum}
use Rattle.local.specs.Det.{odd, det, eliminated, last_largest, better_of, lowered_all, less}
use Rattle.state.specs.Operation.{Engine, effect}
use Rattle.state.specs.declared.operation.Operation.{Operation}
use Rattle.state.specs.declared.operation.Operation.TheVariants.{One, Two, Interaction}
use Rattle.signs.specs.Paulis.{plus, minus, float}
use Rattle.signs.specs.Circuits.{BlockOp, Within}
use Rattle.signs.specs.Signs.{run_by, Right, AlwaysRight}
use Rattle.signs.specs.Engines.{own_engine, no_turn, own_turn, no_settling, next_turn}
use Rattle.signs.proofs.Signs.{signs, right-z}
use Rattle.signs.proofs.Values.{plus≢minus, float_one}
use Rattle.signs.proofs.Gates.{X, XI, R, map₁, map}
use Rattle.signs.proofs.Rows.{between, in_front, behind, twice, alone0, lower, Says, say, Answers, fit-between, fit-alone0, fit-lower}

-- ---- the engine with its own tests

-- its answers to the worked rows, by computation: those of quantum mechanics (`say`). An engine with another test fails here
own-answers : Answers own_engine between 1 minus × Answers own_engine alone0 1 minus × Answers own_engine lower 0 minus
unfolding in_order R XI X map₁ map dot odd det up_from eliminated last_largest better_of lowered_all less abs_of lt le eq is_nan sub add mul div neg
own-answers = (refl, refl, refl)

-- it is the engine, and so it is right for every circuit
own-effect : (o : Operation) (t : State) → own_engine o t ≡ effect o t
unfolding effect
own-effect (One mode q) t = refl
own-effect (Two mode q) t = refl
own-effect (Interaction mode block second unit) t = refl

pub own-right : AlwaysRight own_engine
own-right n xs within = subst (λ (e : Engine). Right n xs (run_by e xs vacuum)) (λ i o t. sym (own-effect o t) i) (signs n xs within)

-- ---- the wrong engines

-- what they answer
pub no-turn : Answers no_turn between 1 plus
unfolding in_order R XI map dot odd det up_from eliminated last_largest better_of lowered_all less abs_of lt le eq is_nan sub add mul div neg
no-turn = refl

pub own_turn-answers : Answers own_turn lower 0 plus
unfolding in_order R X map₁ map dot odd det up_from eliminated last_largest better_of lowered_all less abs_of lt le eq is_nan sub add mul div neg
own_turn-answers = refl

pub no-settling : Answers no_settling between 1 plus
unfolding in_order R XI map dot odd det up_from eliminated last_largest better_of lowered_all less abs_of lt le eq is_nan sub add mul div neg
no-settling = refl

pub next-turn : Answers next_turn alone0 1 plus
unfolding in_order R X map₁ map dot odd det up_from eliminated last_largest better_of lowered_all less abs_of lt le eq is_nan sub add mul div neg
next-turn = refl

-- where the turn is lost and it does not show: X in front, behind, twice between, or alone on mode 0
no-turn-unseen : Answers no_turn in_front 1 minus × Answers no_turn behind 1 minus × Answers no_turn twice 1 minus × Answers no_turn alone0 1 minus
unfolding in_order R XI X map₁ map dot odd det up_from eliminated last_largest better_of lowered_all less abs_of lt le eq is_nan sub add mul div neg
no-turn-unseen = (refl, refl, refl, refl)

-- ---- and so they are refused

wrong : (e : Engine) (xs : List BlockOp) (k : ℕ) → Within 3 xs → k < 3 → Says xs k minus → Answers e xs k plus → AlwaysRight e → ⊥
wrong e xs k within l s a right = plus≢minus (float_one plus minus (sym a ∙ right-z 3 xs (run_by e xs vacuum) (right 3 xs within) k l ∙ ap float s))

pub refused : ¬ AlwaysRight no_turn × ¬ AlwaysRight own_turn × ¬ AlwaysRight no_settling × ¬ AlwaysRight next_turn
refused = (
  wrong no_turn between 1 fit-between (lit< tt) say.0 no-turn,
  wrong own_turn lower 0 fit-lower (lit< tt) say.6 own_turn-answers,
  wrong no_settling between 1 fit-between (lit< tt) say.0 no-settling,
  wrong next_turn alone0 1 fit-alone0 (lit< tt) say.4 next-turn,
)
