-- A list of operations that come from blocks, from the vacuum: each is a step of the engine that the strings' side moves with, so the covariance at
-- the end is that of the Majorana operators pulled back through the list. Assumes nothing.
use mathlib.Core.Path.{◌≡◌, refl, sym, ap, ◌∙◌}
use mathlib.Core.Bool.{Bool, true, false, xor}
use mathlib.Core.List.{List, [], ◌∷◌}
use Prim.Native.Nat.{ℕ, zero, suc, ◌+◌, ◌*◌, ◌/◌, ◌%◌, ◌≤◌, ◌<◌}
use native.Mathlib.Omega.{arith}
use lib.Dec.{eqb, lit<}
use lib.ListN.{length}
use lib.Ieee.{Float}
use Rattle.laws.specs.Lists.{in_order}
use Rattle.laws.specs.Zeros.{nz}
use Rattle.laws.specs.Phase.{Phase, i3}
use Rattle.real.specs.Maps.{local2, local4}
use Rattle.real.specs.declared.maps.Map2.{Map2}
use Rattle.real.specs.declared.maps.Map4.{Map4}
use Rattle.local.specs.Bounds.{state_places}
use Rattle.local.specs.State.{State, state_at, stored, vacuum}
use Rattle.local.specs.Det.{odd}
use Rattle.local.proofs.Stored.{stored_is}
use Rattle.state.specs.Bounds.{dim_of}
use Rattle.state.specs.Operation.{effect, Fits}
use Rattle.signs.specs.Paulis.{sgn, Str, times, signed, mul, identity}
use Rattle.signs.specs.Blocks.{Block₁, Block, on₁, on}
use Rattle.signs.specs.Majoranas.{gamma, paired, Four, c0, c1, c2, c3, num₁, num}
use Rattle.signs.specs.Circuits.{Maps₁, Maps, BlockOp, one, two, interaction, operation, acts, pulled, Within}
use Rattle.signs.specs.Signs.{run_by, applied_all}
use Rattle.signs.proofs.Strings.{signed-signed, on₁-times, on-times, on₁-mul, on-mul}
use Rattle.signs.proofs.Permutations.{odd₁, odd as odd₄, distinct₁, distinct-rows}
use Rattle.signs.proofs.JordanWigner.{identity₁, identity₂, later₁, later, earlier₁, earlier, local₁, local}
use Rattle.signs.proofs.Pairs.{vacuum-is}
use Rattle.signs.proofs.Determinants.{float-odd₁, float-odd}
use Rattle.signs.proofs.Steps.{Moves, Holds, Through, sent, step-holds}

-- ---- an operation of one mode

abbrev kind_of : ℕ → Bool
kind_of zero = false
kind_of (suc i) = true

kind-of : (i : ℕ) → i < 2 → i ≡ num₁ (kind_of i)
kind-of zero l = refl
kind-of (suc zero) l = refl
kind-of (suc (suc i)) l = absurd (omega arith)

below_two : (b : Bool) → num₁ b < 2
below_two false = lit< tt
below_two true = lit< tt

moves-one : (k : ℕ) (g : Block₁) (q : Map2) → Maps₁ g q → Moves (local2 (2 * k) q) (on₁ g k)
unfolding odd
moves-one k g q h = record {
  to = to;
  minus = λ i. (h.rows (kind_of i)).minus;
  within = λ i l. below_two (h.rows (kind_of i)).col;
  entry = λ i j l b. ap (λ m. nz ((local2 (2 * k) q).map m j)) (kind-of i l) ∙ h.entries (kind_of i) j b;
  own = λ i l. ap (λ m. on₁ g k (gamma (2 * k + m))) (kind-of i l) ∙ local₁ g h.rows h.sends k (kind_of i);
  before = λ a l. earlier₁ g k (a / 2) (eqb (a % 2) 1) (omega arith);
  after = λ a l. later₁ g h.rows h.sends k (a / 2) (eqb (a % 2) 1) (omega arith) ∙ ap (λ b. signed b (gamma a)) (sym parity);
}
  where
    to : ℕ → ℕ
    to i = num₁ (h.rows (kind_of i)).col

    parity : odd (local2 (2 * k) q) ≡ odd₁ (h.rows false) (h.rows true)
    parity = float-odd₁ (local2 (2 * k) q).map h.rows h.entries (distinct₁ g h.rows h.sends)

-- ---- an operation of two modes

abbrev four_of : ℕ → Four
four_of zero = c0
four_of (suc zero) = c1
four_of (suc (suc zero)) = c2
four_of (suc (suc (suc i))) = c3

four-of : (i : ℕ) → i < 4 → i ≡ num (four_of i)
four-of zero l = refl
four-of (suc zero) l = refl
four-of (suc (suc zero)) l = refl
four-of (suc (suc (suc zero))) l = refl
four-of (suc (suc (suc (suc i)))) l = absurd (omega arith)

below-four : (c : Four) → num c < 4
below-four c0 = lit< tt
below-four c1 = lit< tt
below-four c2 = lit< tt
below-four c3 = lit< tt

moves-two : (k : ℕ) (g : Block) (q : Map4) → Maps g q → Moves (local4 (2 * k) q) (on g k)
unfolding odd
moves-two k g q h = record {
  to = to;
  minus = λ i. (h.rows (four_of i)).minus;
  within = λ i l. below-four (h.rows (four_of i)).col;
  entry = λ i j l b. ap (λ m. nz ((local4 (2 * k) q).map m j)) (four-of i l) ∙ h.entries (four_of i) j b;
  own = λ i l. ap (λ m. on g k (gamma (2 * k + m))) (four-of i l) ∙ local g h.rows h.sends k (four_of i);
  before = λ a l. earlier g k (a / 2) (eqb (a % 2) 1) (omega arith);
  after = λ a l. later g h.rows h.sends k (a / 2) (eqb (a % 2) 1) (omega arith) ∙ ap (λ b. signed b (gamma a)) (sym parity);
}
  where
    to : ℕ → ℕ
    to i = num (h.rows (four_of i)).col

    parity : odd (local4 (2 * k) q) ≡ odd₄ (h.rows c0) (h.rows c1) (h.rows c2) (h.rows c3)
    parity = float-odd (local4 (2 * k) q).map h.rows h.entries (distinct-rows g h.rows h.sends)

-- ---- every list

pub acts-times : (x : BlockOp) (c : Phase) (s : Str) → acts x (times c s) ≡ times c (acts x s)
acts-times (one k g q h) c s = on₁-times g k c s
acts-times (two k g q h) c s = on-times g k c s
acts-times (interaction mode block second unit) c s = refl

pub pulled-times : (xs : List BlockOp) (c : Phase) (s : Str) → pulled xs (times c s) ≡ times c (pulled xs s)
unfolding pulled
pulled-times [] c s = refl
pulled-times (x ∷ xs) c s = ap (acts x) (pulled-times xs c s) ∙ acts-times x c (pulled xs s)

acts-mul : (n : ℕ) (x : BlockOp) → Fits n (operation x) → (s t : Str) → acts x (mul n s t) ≡ mul n (acts x s) (acts x t)
unfolding Fits
acts-mul n (one k g q h) f s t = on₁-mul n k s t g f
acts-mul n (two k g q h) f s t = on-mul n k s t g f
acts-mul n (interaction mode block second unit) f s t = refl

pub pulled-mul : (n : ℕ) (xs : List BlockOp) → Within n xs → (s t : Str) → pulled xs (mul n s t) ≡ mul n (pulled xs s) (pulled xs t)
unfolding pulled
pulled-mul n [] w s t = refl
pulled-mul n (x ∷ xs) w s t = ap (acts x) (pulled-mul n xs w.1 s t) ∙ acts-mul n x w.0 (pulled xs s) (pulled xs t)

pub pulled-paired : (n : ℕ) (xs : List BlockOp) → Within n xs → (s t : Str) → pulled xs (paired n s t) ≡ paired n (pulled xs s) (pulled xs t)
pulled-paired n xs w s t = pulled-times xs i3 (mul n s t) ∙ ap (times i3) (pulled-mul n xs w s t)

-- a Majorana operator is pulled back to one, with a sign
acts-gamma : (n : ℕ) (x : BlockOp) → Fits n (operation x) → (a : ℕ) → a < 2 * n
    → (b : Bool) × (c : ℕ) × (c < 2 * n) × (acts x (gamma a) ≡ signed b (gamma c))
unfolding Fits
acts-gamma n (one k g q h) f a l = sent (local2 (2 * k) q) (on₁ g k) (moves-one k g q h) (2 * n) a (omega arith) l
acts-gamma n (two k g q h) f a l = sent (local4 (2 * k) q) (on g k) (moves-two k g q h) (2 * n) a (omega arith) l
acts-gamma n (interaction mode block second unit) f a l = (false, a, l, refl)

pub pulled-gamma : (n : ℕ) (xs : List BlockOp) → Within n xs → (a : ℕ) → a < 2 * n
    → (b : Bool) × (c : ℕ) × (c < 2 * n) × (pulled xs (gamma a) ≡ signed b (gamma c))
unfolding pulled
pulled-gamma n [] w a l = (false, a, l, refl)
pulled-gamma n (x ∷ xs) w a l =
    let u = pulled-gamma n xs w.1 a l in
    let v = acts-gamma n x w.0 u.1 u.2 in (
      xor u.0 v.0,
      v.1,
      v.2,
      ap (acts x) u.3 ∙ acts-times x (sgn u.0) (gamma u.1) ∙ ap (signed u.0) v.3
          ∙ signed-signed u.0 v.0 (gamma v.1),
    )

-- the identity stays
acts-identity : (x : BlockOp) → acts x identity ≡ identity
acts-identity (one k g q h) = identity₁ g k
acts-identity (two k g q h) = identity₂ g k
acts-identity (interaction mode block second unit) = refl

pub pulled-identity : (xs : List BlockOp) → pulled xs identity ≡ identity
unfolding pulled
pulled-identity [] = refl
pulled-identity (x ∷ xs) = ap (acts x) (pulled-identity xs) ∙ acts-identity x

-- ---- the covariance after one operation, after a list, and in a slice

effect-holds : (n : ℕ) (x : BlockOp) → Fits n (operation x) → (F : Str → Str) → Through F → (t : State)
    → Holds n t (λ a. F (gamma a)) → Holds n (effect (operation x) t) (λ a. F (acts x (gamma a)))
unfolding effect Fits
effect-holds n (one k g q m) f F through t h = step-holds (local2 (2 * k) q) (on₁ g k) (moves-one k g q m) n (omega arith) F through t h
effect-holds n (two k g q m) f F through t h = step-holds (local4 (2 * k) q) (on g k) (moves-two k g q m) n (omega arith) F through t h
effect-holds n (interaction mode block second unit) f F through t h = h

acts-through : (x : BlockOp) (F : Str → Str) → Through F → Through (λ s. F (acts x s))
acts-through x F through b s = ap F (acts-times x (sgn b) s) ∙ through b (acts x s)

vacuum-holds : (n : ℕ) → Holds n vacuum gamma
vacuum-holds n = record { turned = λ i. false; signs = λ i l. refl; entries = vacuum-is n }

ran-holds : (n : ℕ) (xs : List BlockOp) → Within n xs → (F : Str → Str) → Through F → (t : State)
    → Holds n t (λ a. F (gamma a)) → Holds n (run_by effect xs t) (λ a. F (pulled xs (gamma a)))
unfolding in_order pulled
ran-holds n [] w F through t h = h
ran-holds n (x ∷ xs) w F through t h =
    ran-holds n xs w.1 (λ s. F (acts x s)) (acts-through x F through) (effect (operation x) t) (effect-holds n x w.0 F through t h)

pub run_holds : (n : ℕ) (xs : List BlockOp) → Within n xs → Holds n (run_by effect xs vacuum) (λ a. pulled xs (gamma a))
run_holds n xs w = ran-holds n xs w (λ s. s) (λ b s. refl) vacuum (vacuum-holds n)

-- what is stored is read back
stored-holds : (n : ℕ) (t : State) (f : ℕ → Str) (s : List Float) → state_places (dim_of n) ≤ length s → Holds n t f
    → Holds n (state_at (dim_of n) (stored (dim_of n) t s)) f
stored-holds n t f s room h =
    let w = stored_is (dim_of n) s t (stored (dim_of n) t s) room refl in record {
      turned = h.turned;
      signs = λ i l. w.sign i l ∙ h.signs i l;
      entries = λ r c hr hc. ap nz (w.entry r c hr hc) ∙ h.entries r c hr hc;
    }

applied-holds : (n : ℕ) (xs : List BlockOp) → Within n xs → (F : Str → Str) → Through F → (s : List Float) → state_places (dim_of n) ≤ length s
    → Holds n (state_at (dim_of n) s) (λ a. F (gamma a)) → Holds n (state_at (dim_of n) (applied_all n xs s)) (λ a. F (pulled xs (gamma a)))
unfolding in_order pulled
applied-holds n [] w F through s room h = h
applied-holds n (x ∷ xs) w F through s room h =
    let t = effect (operation x) (state_at (dim_of n) s) in
    let long = (stored_is (dim_of n) s t (stored (dim_of n) t s) room refl).long in
    applied-holds n xs w.1 (λ s. F (acts x s)) (acts-through x F through) (stored (dim_of n) t s) (rw long room)
    (stored-holds n t (λ a. F (acts x (gamma a))) s room (effect-holds n x w.0 F through (state_at (dim_of n) s) h))

pub slice-holds : (n : ℕ) (xs : List BlockOp) (s : List Float) → Within n xs → state_places (dim_of n) ≤ length s
    → Holds n (state_at (dim_of n) (applied_all n xs (stored (dim_of n) vacuum s))) (λ a. pulled xs (gamma a))
slice-holds n xs s w room =
    let long = (stored_is (dim_of n) s vacuum (stored (dim_of n) vacuum s) room refl).long in
    applied-holds n xs w (λ s. s) (λ b s. refl) (stored (dim_of n) vacuum s) (rw long room) (stored-holds n vacuum gamma s room (vacuum-holds n))
