-- Engines that are not the same, each by a worked row: plain ones that turn their own rows too, rows only, or never for two modes (specs/Engines.antt); and
-- the engine if it does not settle, never turns, turns its own rows too, or turns the next mode only (those of crate `signs`). Assumes nothing.
use mathlib.Core.Path.{◌≡◌, refl, sym, ap, subst, ◌∙◌}
use mathlib.Core.Bool.{◌&&◌, true≢false}
use mathlib.Core.List.{List, [], ◌∷◌, map}
use Prim.Native.Nat.{ℕ, ◌+◌, ◌*◌, ◌<◌}
use native.Mathlib.Omega.{arith}
use lib.Dec.{lit<, leb}
use lib.Ieee.{Float, neg, lt, add, sub, mul, div, le, eq, is_nan}
use Rattle.laws.specs.Lists.{All, in_order}
use Rattle.laws.specs.Views.{up_from}
use Rattle.laws.proofs.Lists.{all-of-map, in_order-map}
use Rattle.laws.specs.Zeros.{+0, +1, sg, nz}
use Rattle.laws.specs.Matrix.{Mat}
use Rattle.laws.specs.Maps.{Local, dot, rows, cols}
use Rattle.real.specs.Maps.{real2, map2, real4, map4, local2, local4}
use Rattle.num.specs.Order.{abs_of}
use Rattle.local.specs.State.{State, vacuum, get}
use Rattle.local.specs.Apply.{later}
use Rattle.local.specs.Det.{odd, det, eliminated, last_largest, better_of, lowered_all, less}
use Rattle.state.specs.Operation.{Engine, effect, Fits}
use Rattle.state.specs.declared.operation.Operation.{Operation}
use Rattle.state.specs.declared.operation.Operation.TheVariants.{One, Two, Interaction}
use Rattle.queries.specs.Products.{z_of}
use Rattle.signs.specs.Paulis.{plus, minus}
use Rattle.signs.specs.Circuits.{BlockOp, operation, Within}
use Rattle.signs.specs.Signs.{run_by}
use Rattle.signs.specs.Engines.{no_turn, own_turn, no_settling, next_turn}
use Rattle.signs.proofs.Values.{plus≢minus, float_one}
use Rattle.signs.proofs.Rows.{between, alone0, lower, Answers, fit-between, fit-alone0, fit-lower}
use Rattle.signs.proofs.Rows as worked_rows
use Rattle.signs.proofs.Refused.{no-turn, own_turn-answers, no-settling, next-turn}
use Rattle.plain.specs.Plain.{plain_step, plain}
use Rattle.postponed.specs.Beside.{AlwaysSame}
use Rattle.postponed.specs.Engines.{step_with, own_plain, own_rows, rows_only, never_for_two}
use Rattle.postponed.proofs.Steps.{plain-entry}
use Rattle.postponed.proofs.Operations.{always-same}

-- ---- the lists: `quarter` exchanges the second operator of a mode with the first of the next, one with a turned sign; the others are flips of one mode

abbrev quarter : ℕ → Operation
quarter mode = Two mode (map4 (real4 +1 +0 +0 +0) (real4 +0 +0 +1 +0) (real4 +0 (neg +1) +0 +0) (real4 +0 +0 +0 +1))

abbrev flip : Operation
flip = One 0 (map2 (real2 +1 +0) (real2 +0 (neg +1)))

abbrev flip_of_two : Operation
flip_of_two =
    Two 0 (map4 (real4 +1 +0 +0 +0) (real4 +0 (neg +1) +0 +0) (real4 +0 +0 (neg +1) +0) (real4 +0 +0 +0 (neg +1)))

abbrev pair : List Operation
pair = quarter 0 ∷ flip ∷ []

abbrev three : List Operation
three = quarter 1 ∷ flip_of_two ∷ []

-- ---- entry (r, c) after a list

abbrev Reads : (Operation → State → State) → List Operation → ℕ → ℕ → Float → Type 0
Reads e os r c v = nz (get (in_order e os vacuum) r c) ≡ v

abbrev Holds : (Operation → Mat → Mat) → List Operation → ℕ → ℕ → Float → Type 0
Holds p os r c v = nz (in_order p os vacuum.m r c) ≡ v

-- the engine's own, and the plain one's
engine-entries : Reads effect pair 0 2 +1 × Reads effect three 2 4 (neg +1)
unfolding effect in_order dot odd det up_from eliminated last_largest better_of lowered_all less abs_of lt le eq is_nan sub add mul div neg
engine-entries = (refl, refl)

plain-entries : Holds own_plain pair 0 2 +1 × Holds own_plain three 2 4 (neg +1)
unfolding in_order dot odd det up_from eliminated last_largest better_of lowered_all less abs_of lt le eq is_nan sub add mul div neg
plain-entries = (refl, refl)

-- the wrong ones
wrong-plain : Holds own_rows pair 0 2 (neg +1) × Holds rows_only pair 0 2 (neg +1) × Holds never_for_two three 2 4 +1
unfolding in_order dot odd det up_from eliminated last_largest better_of lowered_all less abs_of lt le eq is_nan sub add mul div neg
wrong-plain = (refl, refl, refl)

-- ---- the plain engine with its own tests is the plain engine

own-step : (o : Local) (s : ℕ) → o.start + o.width ≡ s → (p : Mat) → step_with later later o p ≡ plain_step o s p
own-step o s e p =
    (λ i r c. sg (odd o && leb (e i) r) (sg (odd o && leb (e i) c) (cols o (rows o p) r c))) ∙ (λ i r c. sym (plain-entry o s p r c) i)

pub own-is : (o : Operation) (p : Mat) → own_plain o p ≡ plain o p
unfolding plain
own-is (One mode q) p = own-step (local2 (2 * mode) q) (2 * (mode + 1)) (omega arith) p
own-is (Two mode q) p = own-step (local4 (2 * mode) q) (2 * (mode + 2)) (omega arith) p
own-is (Interaction mode block second unit) p = refl

pub own-same : AlwaysSame effect own_plain
own-same = subst (λ (p : Operation → Mat → Mat). AlwaysSame effect p) (λ i o p. sym (own-is o p) i) always-same

-- ---- and the wrong ones are refused

fit-pair : All (Fits 3) pair
unfolding Fits
fit-pair = (lit< tt, (lit< tt, tt))

fit-three : All (Fits 3) three
unfolding Fits
fit-three = (lit< tt, (lit< tt, tt))

apart : +1 ≡ neg +1 → ⊥
unfolding lt neg
apart e = true≢false (sym (ap (λ x. lt x +0) e))

-- an engine that answers a worked row of the sign theorem wrongly reads another entry than the engine, and so than the plain one
not-same : (e : Engine) (xs : List BlockOp) (k : ℕ) → Within 3 xs → k < 3 → Answers effect xs k minus → Answers e xs k plus → AlwaysSame e plain → ⊥
not-same e xs k within l right wrong same =
    let os = map operation xs in
    let fits = all-of-map operation (Fits 3) xs within in
    let read = same 3 os fits (2 * k) (2 * k + 1) (omega arith) (omega arith) ∙ sym (always-same 3 os fits (2 * k) (2 * k + 1) (omega arith) (omega arith)) in
    plus≢minus (float_one plus minus (sym wrong ∙ sym (listed e) ∙ read ∙ listed effect ∙ right))
  where
    listed : (e : Engine) → nz (z_of (get (in_order e (map operation xs) vacuum)) k) ≡ nz (z_of (get (run_by e xs vacuum)) k)
    listed e = ap (λ t. nz (z_of (get t) k)) (in_order-map operation e xs vacuum)

pub refused : ¬ AlwaysSame effect own_rows × ¬ AlwaysSame effect rows_only × ¬ AlwaysSame effect never_for_two
    × ¬ AlwaysSame no_settling plain × ¬ AlwaysSame no_turn plain × ¬ AlwaysSame own_turn plain × ¬ AlwaysSame next_turn plain
refused = (
  λ same. apart (sym engine-entries.0 ∙ same 3 pair fit-pair 0 2 (lit< tt) (lit< tt) ∙ wrong-plain.0),
  λ same. apart (sym engine-entries.0 ∙ same 3 pair fit-pair 0 2 (lit< tt) (lit< tt) ∙ wrong-plain.1),
  λ same. apart (sym wrong-plain.2 ∙ sym (same 3 three fit-three 2 4 (lit< tt) (lit< tt)) ∙ engine-entries.1),
  not-same no_settling between 1 fit-between (lit< tt) worked_rows.rows.0 no-settling,
  not-same no_turn between 1 fit-between (lit< tt) worked_rows.rows.0 no-turn,
  not-same own_turn lower 0 fit-lower (lit< tt) worked_rows.rows.6 own_turn-answers,
  not-same next_turn alone0 1 fit-alone0 (lit< tt) worked_rows.rows.4 next-turn,
)
