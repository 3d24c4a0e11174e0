-- Engines that lose a sign, at an angle: over the numbers modulo 13, with cosine 7 and sine 11 (half the angle: 2 and 6). Two neighbours are turned about X
-- X, the first is flipped by X, and they are turned again. Quantum mechanics and the engine give Z its value; each wrong engine gives another one. Assumes
-- nothing.
use mathlib.Core.Path.{◌≡◌, refl, sym, ap, ◌∙◌}
use mathlib.Core.Bool.{false, false≢true}
use mathlib.Core.List.{List, [], ◌∷◌, map}
use Prim.Native.Nat.{ℕ, ◌+◌, ◌*◌, ◌≤◌, ◌<◌}
use lib.Dec.{eqb, lit<, lit≤}
use borrow.Author.Tests.{eq-eqb}
use Rattle.laws.specs.Lists.{in_order}
use Rattle.formulas.specs.Engine.{Local, State, Item, applied, interaction, each, effect, dot, vacuum, get}
use Rattle.formulas.specs.Determinants.{odd}
use Rattle.angles.specs.Qubits.{z, Operators}
use Rattle.angles.specs.Angles.{Block, operation, after}
use Rattle.angles.specs.Lost.{Engines, own_engine, no_turn, own_turn, no_settling, next_turn, OwnTests, Refuted, AnglesRefute}
use Rattle.angles.specs.Matrices.{tower}
use Rattle.angles.proofs.Matrices.{operators}
use Rattle.angles.proofs.Runs.{every-angle}
use Rattle.angles.proofs.Rotations.{turn-two, flip-x}
use Rattle.formulas.proofs.Thirteen.{Mod, e1, e2, e6, e7, e12, to, mod13, minus_one, exact13}

module _ (n : ℕ) where
  abbrev qubits : Operators mod13 exact13.i n (tower mod13 n)
  qubits = operators exact13 n

  abbrev turned : (k : ℕ) → k + 2 ≤ n → Item (Block qubits)
  turned k h = applied (turn-two exact13 qubits e2 e6 refl k h)

  abbrev flipped : (k : ℕ) → k < n → Item (Block qubits)
  flipped k h = applied (flip-x exact13 qubits k h)

  -- Z of mode k that an engine gives
  abbrev z_by : Engines → List (Item (Block qubits)) → ℕ → Mod
  z_by e gs k = get mod13 (in_order (e mod13 minus_one) (map (each (operation qubits)) gs) (vacuum mod13)) (2 * k) (2 * k + 1)

-- on two modes, the turn of both; on three modes, the turn of the last two
abbrev on_two : List (Item (Block (qubits 2)))
on_two = turned 2 0 (lit≤ tt) ∷ flipped 2 0 (lit< tt) ∷ turned 2 0 (lit≤ tt) ∷ []

abbrev on_three : List (Item (Block (qubits 3)))
on_three = turned 3 1 (lit≤ tt) ∷ flipped 3 0 (lit< tt) ∷ turned 3 1 (lit≤ tt) ∷ []

-- ---- the engine

right-two : z_by 2 own_engine on_two 0 ≡ e7
unfolding in_order turn-two flip-x dot
right-two = refl

right-three : z_by 3 own_engine on_three 1 ≡ e6
unfolding in_order turn-two flip-x dot
right-three = refl

-- with the engine's own tests it is the engine
pub own-tests : OwnTests
own-tests 𝓝 below = λ i x t. same x t i
  where
    same : (x : Item (Local 𝓝)) (t : State 𝓝) → own_engine 𝓝 below x t ≡ effect 𝓝 below (odd 𝓝 below) x t
    same (applied o) t = refl
    same interaction t = refl

-- ---- a lost turn; a turn of the own rows too; signs that are not settled: -1 for 7

lost-turn : z_by 2 no_turn on_two 0 ≡ e12
unfolding in_order turn-two flip-x dot
lost-turn = refl

own-rows : z_by 2 own_turn on_two 0 ≡ e12
unfolding in_order turn-two flip-x dot
own-rows = refl

not-settled : z_by 2 no_settling on_two 0 ≡ e12
unfolding in_order turn-two flip-x dot
not-settled = refl

-- a turn of the next mode only: 1 for 6
next-mode-only : z_by 3 next_turn on_three 1 ≡ e1
unfolding in_order turn-two flip-x dot
next-mode-only = refl

-- ---- quantum mechanics gives what the engine does, by the theorem

quantum-two : after (qubits 2) on_two ((qubits 2).pauli z 0) ≡ e7
quantum-two = sym ((every-angle exact13 (qubits 2) on_two).parity 0 (lit< tt)) ∙ right-two

quantum-three : after (qubits 3) on_three ((qubits 3).pauli z 1) ≡ e6
quantum-three = sym ((every-angle exact13 (qubits 3) on_three).parity 1 (lit< tt)) ∙ right-three

-- an engine that gives another Z of mode k after some list is not right
refuted : (e : Engines) (n : ℕ) (gs : List (Item (Block (qubits n)))) (k : ℕ) → k < n → (s t : Mod) → z_by n e gs k ≡ s
    → after (qubits n) gs ((qubits n).pauli z k) ≡ t → eqb (to s) (to t) ≡ false → Refuted e
refuted e n gs k h s t given true_value differ = record {
  numbers = mod13;
  below = minus_one;
  exact = exact13;
  n = n;
  matrices = tower mod13 n;
  operators = qubits n;
  wrong = λ claim. false≢true (sym differ ∙ eq-eqb (to s) (to t) (ap to (sym given ∙ (claim gs).parity k h ∙ true_value)));
}

-- THE STATEMENT
pub angles-refute : AnglesRefute
angles-refute = record {
  lost = refuted no_turn 2 on_two 0 (lit< tt) e12 e7 lost-turn quantum-two refl;
  own = refuted own_turn 2 on_two 0 (lit< tt) e12 e7 own-rows quantum-two refl;
  unsettled = refuted no_settling 2 on_two 0 (lit< tt) e12 e7 not-settled quantum-two refl;
  next = refuted next_turn 3 on_three 1 (lit< tt) e1 e6 next-mode-only quantum-three refl;
}
