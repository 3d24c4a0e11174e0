-- Worked rows over the numbers modulo 13: shots of the vacuum and of a turned state, on the way of which nothing is clamped or impossible, and marginals with
-- a repeat and with a contradiction. So the theorems speak of something. And those on gates and circuits, of pairs and of real numbers, at the numbers
-- modulo 7: there are such as they ask for. Assumes nothing.
use mathlib.Core.Path.{◌≡◌, refl}
use mathlib.Core.Bool.{Bool, false}
use mathlib.Core.List.{List, [], ◌∷◌}
use Prim.Native.Nat.{ℕ, ◌+◌, ◌*◌}
use lib.Dec.{eqb}
use lib.ListN.{get_or}
use Rattle.laws.specs.Lists.{in_order}
use Rattle.laws.specs.Views.{up_from}
use Rattle.formulas.specs.Engine.{Mat, Local, Item, applied, dot, run, vacuum, get}
use Rattle.formulas.specs.Determinants.{last_largest, eliminated, own_det, own_odd}
use Rattle.formulas.specs.Pfaffians.{search, pf, own_pfaffian}
use Rattle.queries.specs.Lists.{first_from, oddly, passing, noted, stop_place}
use Rattle.matchgates.specs.Complex.{complex}
use Rattle.answers.specs.Marginals.{marked_of}
use Rattle.answers.specs.Asked.{marginal_answer, GatesRight, CircuitsRight}
use Rattle.answers.specs.Shots.{Draws, chances, Regular}
use Rattle.answers.specs.OnReals.{RealGatesRight, RealCircuitsRight}
use Rattle.formulas.proofs.Thirteen.{Mod, e0, e1, e2, e4, e7, e11, e12, mod13, minus_one, tests13}
use Rattle.matchgates.proofs.Complex.{exact, conjugate}
use Rattle.matchgates.proofs.Seven.{mod7, minus_one as minus_one7, real7, tests7, divides7}
use Rattle.matchgates.proofs.Quotients.{pair_tests}
use Rattle.matchgates.proofs.Reals.{pairs-of-mod7}
use Rattle.answers.proofs.Asked.{gates-right}
use Rattle.answers.proofs.Circuits.{circuits-right}
use Rattle.answers.proofs.OnReals.{real-gates-right, real-circuits-right}

abbrev draws13 : Draws mod13
draws13 = record { clamp = λ s. s; tiny = tests13.null; le = λ s t. tests13.null s }

vacuum-regular : Regular mod13 e7 tests13 draws13 (get mod13 (vacuum mod13)) 0 2 (λ k. false)
unfolding Regular
vacuum-regular = (refl, refl, (refl, refl, tt))

vacuum-reads : chances mod13 e7 tests13 draws13 (get mod13 (vacuum mod13)) 0 2 (λ k. false) ≡ e1
unfolding chances
vacuum-reads = refl

-- ---- an angle: two modes are turned about X X, the first is flipped by X, and they are turned again

abbrev entries : ℕ → List Mod → Mat mod13
entries w l r c = get_or l (w * r + c) e0

-- cosine 7, sine 11
abbrev turn : Item (Local mod13)
turn =
    applied (record {
      start = 0;
      width = 4;
      map = entries 4 (e1 ∷ e0 ∷ e0 ∷ e0 ∷ e0 ∷ e7 ∷ e11 ∷ e0 ∷ e0 ∷ e2 ∷ e7 ∷ e0 ∷ e0 ∷ e0 ∷ e0 ∷ e1 ∷ []);
    })

abbrev flip : Item (Local mod13)
flip = applied (record { start = 0; width = 2; map = entries 2 (e1 ∷ e0 ∷ e0 ∷ e12 ∷ []) })

abbrev turned : Mat mod13
turned = get mod13 (run mod13 minus_one (own_odd mod13 tests13 minus_one) (turn ∷ flip ∷ turn ∷ []) (vacuum mod13))

abbrev outcomes : ℕ → Bool
outcomes k = eqb k 1

-- one and the other together: 4. The projection of the first mode makes 12 of the 6 of the second, and with 6 it would be 3
turned-regular : Regular mod13 e7 tests13 draws13 turned 0 2 outcomes
unfolding Regular in_order dot own_det eliminated last_largest up_from
turned-regular = (refl, refl, (refl, refl, tt))

turned-reads : chances mod13 e7 tests13 draws13 turned 0 2 outcomes ≡ e4
unfolding chances in_order dot own_det eliminated last_largest up_from
turned-reads = refl

-- the marginal of a list with a repeat is the same; qubit 1 is on mode 0, and qubit 0 on mode 1
abbrev asked_of : List ℕ → Mod
asked_of bits = marginal_answer mod13 tests13 e7 turned 2 (1 ∷ 0 ∷ []) (1 ∷ 0 ∷ 1 ∷ []) bits

repeated : asked_of (0 ∷ 1 ∷ 0 ∷ []) ≡ e4
unfolding marked_of stop_place first_from noted oddly passing own_pfaffian pf search in_order dot own_det eliminated last_largest up_from
repeated = refl

-- that of one with a contradiction is 0
contradicted : asked_of (0 ∷ 1 ∷ 1 ∷ []) ≡ e0
unfolding marked_of stop_place first_from noted oddly passing own_pfaffian pf search in_order dot own_det eliminated last_largest up_from
contradicted = refl

-- ---- modulo 7

abbrev asks : Local (complex mod7) → Bool
asks = own_odd (complex mod7) (pair_tests mod7 tests7) (λ s. minus_one7 s.re)

gates-mod7 : GatesRight (pair_tests mod7 tests7) (exact real7) asks (conjugate real7)
gates-mod7 = gates-right pairs-of-mod7 (exact real7) (conjugate real7)

circuits-mod7 : CircuitsRight (pair_tests mod7 tests7) (exact real7) asks (conjugate real7)
circuits-mod7 = circuits-right pairs-of-mod7 (exact real7) (conjugate real7)

real-gates-mod7 : RealGatesRight real7 tests7 (exact real7) (conjugate real7) (own_odd mod7 tests7 minus_one7)
real-gates-mod7 = real-gates-right real7 divides7

real-circuits-mod7 : RealCircuitsRight real7 tests7 (exact real7) (conjugate real7) (own_odd mod7 tests7 minus_one7)
real-circuits-mod7 = real-circuits-right real7 divides7
