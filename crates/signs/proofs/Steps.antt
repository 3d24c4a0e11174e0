-- One step of the engine against the strings. Where the state's covariance is that of some operators, and a map of the engine is the signed
-- permutation by which a block moves the Majorana operators, the state after the engine's step has the covariance of the operators moved.
-- The engine's side is settled signs, rows, columns and the turn of the later signs; any width. Assumes nothing.
use mathlib.Core.Path.{◌≡◌, refl, sym, ap, ◌∙◌}
use mathlib.Core.Logic.{◌⊎◌, inl, inr}
use mathlib.Core.Bool.{Bool, true, false, not, xor, ◌&&◌, cond, and-false, and-true}
use Prim.Native.Nat.{ℕ, ◌+◌, ◌*◌, ◌-◌, ◌≤◌, ◌<◌}
use native.Mathlib.Omega.{arith}
use lib.Dec.{eqb}
use lib.Ieee.{binary64, mul, lt}
use borrow.Author.Tests.{le-leb, lt-leb}
use Rattle.laws.specs.Zeros.{+0, +1, sg, nz}
use Rattle.laws.specs.Matrix.{Mat}
use Rattle.laws.specs.Maps.{Local, inside, rows, cols}
use Rattle.std.proofs.lemmas.Bool.{cases_lt}
use Rattle.laws.proofs.Maps.{inside-yes, inside-below, inside-above}
use Rattle.local.specs.State.{State, get}
use Rattle.local.specs.Det.{odd}
use Rattle.local.specs.Apply.{later, settled, step}
use Rattle.local.proofs.Postponing.{left, left-own, below_is, step-signs}
use Rattle.signs.specs.Paulis.{Str, signed, Value, plus, turn, float, expectation}
use Rattle.signs.specs.Majoranas.{gamma, paired}
use Rattle.signs.proofs.Tables.{xor-none}
use Rattle.signs.proofs.Values.{◌×ᵥ◌, turn-turn, turn-comm, turn-xor, turn-right, sg-one, sg-value, mul-value, dot-unit, mul-plus}
use Rattle.signs.proofs.Expectations.{expectation-signed, paired-signed}
use Rattle.signs.proofs.Pairs.{pairing}

-- ---- a map of the engine, and an action on strings that it is right for

pub record Moves (o : Local) (act : Str → Str) : Type 0 where
  -- row i has its entry in column `to i`, and it is -1.0 if `minus i`
  pub to : ℕ → ℕ
  pub minus : ℕ → Bool
  pub within : (i : ℕ) → i < o.width → to i < o.width
  pub entry : (i j : ℕ) → i < o.width → j < o.width → nz (o.map i j) ≡ nz (cond (eqb j (to i)) (sg (minus i) +1) +0)
  -- and so the action moves the map's own operators; the earlier stay, and the later take the sign of the determinant
  pub own : (i : ℕ) → i < o.width → act (gamma (o.start + i)) ≡ signed (minus i) (gamma (o.start + to i))
  pub before : (a : ℕ) → a < o.start → act (gamma a) ≡ gamma a
  pub after : (a : ℕ) → o.start + o.width ≤ a → act (gamma a) ≡ signed (odd o) (gamma a)

-- ---- the covariance of the operators f, on n modes, with some signs postponed

pub record Holds (n : ℕ) (t : State) (f : ℕ → Str) : Type 0 where
  pub turned : ℕ → Bool
  pub signs : (i : ℕ) → i < 2 * n → t.d i ≡ sg (turned i) +1
  pub entries : (r c : ℕ) → r < 2 * n → c < 2 * n → nz (t.m r c) ≡ float (turn (turned r) (turn (turned c) (pairing n (f r) (f c))))

-- a sign in front goes through
abbrev pub Through : (Str → Str) → Type 0
Through F = (b : Bool) (s : Str) → F (signed b s) ≡ signed b (F s)

-- an entry as it is read
pub get-is : (n : ℕ) (t : State) (f : ℕ → Str) → Holds n t f → (r c : ℕ) → r < 2 * n → c < 2 * n → nz (get t r c) ≡ float (pairing n (f r) (f c))
get-is n t f h r c hr hc =
    mul-value (mul binary64 (t.m r c) (t.d r)) (t.d c) (turn a (turn b v) ×ᵥ turn a plus) (turn b plus)
    (mul-value (t.m r c) (t.d r) (turn a (turn b v)) (turn a plus) (h.entries r c hr hc) (sign r hr)) (sign c hc)
    ∙ ap float (one a b v)
  where
    a : Bool
    a = h.turned r

    b : Bool
    b = h.turned c

    v : Value
    v = pairing n (f r) (f c)

    sign : (i : ℕ) → i < 2 * n → nz (t.d i) ≡ float (turn (h.turned i) plus)
    sign i l = ap nz (h.signs i l) ∙ sg-one (h.turned i)

    one : (a b : Bool) (v : Value) → turn a (turn b v) ×ᵥ turn a plus ×ᵥ turn b plus ≡ v
    one a b v =
        turn-right b (turn a (turn b v) ×ᵥ turn a plus) plus
        ∙ ap (turn b) (mul-plus (turn a (turn b v) ×ᵥ turn a plus) ∙ turn-right a (turn a (turn b v)) plus ∙ ap (turn a) (mul-plus (turn a (turn b v)))
        ∙ turn-turn a (turn b v))
        ∙ turn-turn b v

-- ---- signs

-- an own sign is settled, any other is left
part : (i d : Bool) (v : Value) → turn (i && d) (turn d v) ≡ turn (d && not i) v
part false false v = refl
part false true v = refl
part true false v = refl
part true true v = turn-turn true v

-- a turn that is postponed and made
cross : (t l o : Bool) (v : Value) → turn (xor l o) (turn (xor t o) v) ≡ turn t (turn l v)
cross t l o v =
    turn-xor l o (turn (xor t o) v) ∙ ap (λ w. turn l (turn o w)) (turn-xor t o v)
    ∙ ap (turn l) (turn-comm o t (turn o v) ∙ ap (turn t) (turn-turn o v)) ∙ turn-comm l t v

all-signs : (t l o t' l' o' : Bool) (v : Value)
    → turn t' (turn t (turn l (turn l' v))) ≡ turn (xor l o) (turn (xor l' o') (turn (xor t o) (turn (xor t' o') v)))
all-signs t l o t' l' o' v =
    turn-comm t' t (turn l (turn l' v)) ∙ ap (turn t) (turn-comm t' l (turn l' v)) ∙ sym (cross t l o (turn t' (turn l' v)))
    ∙ ap (λ w. turn (xor l o) (turn (xor t o) w)) (sym (cross t' l' o' v))
    ∙ ap (turn (xor l o)) (turn-comm (xor t o) (xor l' o') (turn (xor t' o') v))

-- ---- the step

module _ (o : Local) (act : Str → Str) (moves : Moves o act) where
  -- where index a comes from, and with which sign
  abbrev goes : ℕ → ℕ
  goes a = cond (inside o a) (o.start + moves.to (a - o.start)) a

  abbrev turns : ℕ → Bool
  turns a = inside o a && moves.minus (a - o.start)

  abbrev late : ℕ → Bool
  late a = odd o && later o a

  data Where (a : ℕ) : Type 0 where
    low : a < o.start → Where a
    mid : o.start ≤ a → a < o.start + o.width → Where a
    high : o.start + o.width ≤ a → Where a

  look : (a : ℕ) → Where a
  look a = by (cases_lt a o.start) (cases_lt a (o.start + o.width))
    where
      by : (a < o.start) ⊎ (o.start ≤ a) → (a < o.start + o.width) ⊎ (o.start + o.width ≤ a) → Where a
      by (inl l) _ = low l
      by (inr l) (inl k) = mid l k
      by (inr l) (inr k) = high k

  -- the strings' side
  moved : (a : ℕ) → act (gamma a) ≡ signed (xor (turns a) (late a)) (gamma (goes a))
  unfolding xor
  moved a = by (look a)
    where
      by : Where a → act (gamma a) ≡ signed (xor (turns a) (late a)) (gamma (goes a))
      by (low l) = rw (inside-below o a l, lt-leb (o.start + o.width) a (omega arith), and-false (odd o)) (moves.before a l)
      by (mid l k) =
          rw (inside-yes o a l k, lt-leb (o.start + o.width) a (omega arith), and-false (odd o), xor-false (moves.minus (a - o.start)))
          (ap (λ b. act (gamma b)) (split a o.start l) ∙ moves.own (a - o.start) (omega arith))
        where
          split : (a s : ℕ) → s ≤ a → a ≡ s + (a - s)
          split a s l = omega arith

          xor-false : (b : Bool) → xor b false ≡ b
          xor-false false = refl
          xor-false true = refl
      by (high l) = rw (inside-above o a l, le-leb (o.start + o.width) a l, and-true (odd o), xor-none (odd o)) (moves.after a l)

  -- the map's own indices stay among themselves, and below n
  goes_in : (a : ℕ) → inside o (goes a) ≡ inside o a
  goes_in a = by (look a)
    where
      by : Where a → inside o (goes a) ≡ inside o a
      by (low l) = rw (inside-below o a l) (inside-below o a l)
      by (mid l k) =
          rw (inside-yes o a l k) (let b = moves.within (a - o.start) (omega arith) in inside-yes o (o.start + moves.to (a - o.start))
          (omega arith) (omega arith))
      by (high l) = rw (inside-above o a l) (inside-above o a l)

  goes-below : (m a : ℕ) → o.start + o.width ≤ m → a < m → goes a < m
  goes-below m a w l = by (look a)
    where
      by : Where a → goes a < m
      by (low k) = rw (inside-below o a k) l
      by (mid k k') = rw (inside-yes o a k k') (let b = moves.within (a - o.start) (omega arith) in omega arith)
      by (high k) = rw (inside-above o a k) l

  -- a Majorana operator is sent to one, with a sign
  pub sent : (m a : ℕ) → o.start + o.width ≤ m → a < m → (b : Bool) × (c : ℕ) × (c < m) × (act (gamma a) ≡ signed b (gamma c))
  sent m a w l = (xor (turns a) (late a), goes a, goes-below m a w l, moved a)

  -- rows and columns under the map, on values
  module _ (N : ℕ) (room : o.start + o.width ≤ N) (m : Mat) (v : ℕ → ℕ → Value) (h : (r c : ℕ) → r < N → c < N → nz (m r c) ≡ float (v r c)) where
    rows_are : (r c : ℕ) → r < N → c < N → nz (rows o m r c) ≡ float (turn (turns r) (v (goes r) c))
    rows_are r c hr hc = by (look r)
      where
        by : Where r → nz (rows o m r c) ≡ float (turn (turns r) (v (goes r) c))
        by (low l) = rw (inside-below o r l) (h r c hr hc)
        by (mid l k) =
            let i = r - o.start in
            rw (inside-yes o r l k)
            (dot-unit (o.map i) (λ j. m (o.start + j) c) (moves.minus i) (moves.to i) (λ j. v (o.start + j) c) o.width
            (moves.within i (omega arith))
            (λ j b. moves.entry i j (omega arith) b) (λ j b. h (o.start + j) c (omega arith) hc))
        by (high l) = rw (inside-above o r l) (h r c hr hc)

    cols-are : (r c : ℕ) → r < N → c < N → nz (cols o m r c) ≡ float (turn (turns c) (v r (goes c)))
    cols-are r c hr hc = by (look c)
      where
        by : Where c → nz (cols o m r c) ≡ float (turn (turns c) (v r (goes c)))
        by (low l) = rw (inside-below o c l) (h r c hr hc)
        by (mid l k) =
            let i = c - o.start in
            rw (inside-yes o c l k)
            (dot-unit (o.map i) (λ j. m r (o.start + j)) (moves.minus i) (moves.to i) (λ j. v r (o.start + j)) o.width
            (moves.within i (omega arith))
            (λ j b. moves.entry i j (omega arith) b) (λ j b. h r (o.start + j) hr (omega arith)))
        by (high l) = rw (inside-above o c l) (h r c hr hc)

  -- THE STEP: for operators f a = F (gamma a), where F lets a sign through
  module _ (n : ℕ) (room : o.start + o.width ≤ 2 * n) (F : Str → Str) (through : Through F) (t : State) (h : Holds n t (λ a. F (gamma a))) where
    abbrev D : ℕ → Bool
    D = h.turned

    -- what is postponed after settling
    abbrev rest : ℕ → Bool
    rest = left o D

    abbrev value : ℕ → ℕ → Value
    value r c = pairing n (F (gamma r)) (F (gamma c))

    settled-are : (r c : ℕ) → r < 2 * n → c < 2 * n → nz (settled o t r c) ≡ float (turn (rest r) (turn (rest c) (value r c)))
    settled-are r c hr hc =
        (λ i. nz (sg (inside o r && low r hr i) (sg (inside o c && low c hc i) (t.m r c))))
        ∙ sg-value (inside o r && D r) (sg (inside o c && D c) (t.m r c)) _
        (sg-value (inside o c && D c) (t.m r c) (turn (D r) (turn (D c) (value r c))) (h.entries r c hr hc))
        ∙ ap float
        (ap (turn (inside o r && D r)) (turn-comm (inside o c && D c) (D r) (turn (D c) (value r c)))
        ∙ part (inside o r) (D r) (turn (inside o c && D c) (turn (D c) (value r c)))
        ∙ ap (turn (rest r)) (part (inside o c) (D c) (value r c)))
      where
        low : (i : ℕ) → i < 2 * n → lt (t.d i) +0 ≡ D i
        low i l = below_is t D i (h.signs i l)

    rest-goes : (a : ℕ) → rest (goes a) ≡ rest a
    rest-goes a = by (look a)
      where
        by : Where a → rest (goes a) ≡ rest a
        by (low l) = ap (λ b. rest (cond b (o.start + moves.to (a - o.start)) a)) (inside-below o a l)
        by (mid l k) = left-own o D (goes a) (goes_in a ∙ inside-yes o a l k) ∙ sym (left-own o D a (inside-yes o a l k))
        by (high l) = ap (λ b. rest (cond b (o.start + moves.to (a - o.start)) a)) (inside-above o a l)

    -- the operators after the step
    moved_value : (r c : ℕ)
        → pairing n (F (act (gamma r))) (F (act (gamma c))) ≡ turn (xor (turns r) (late r)) (turn (xor (turns c) (late c)) (value (goes r) (goes c)))
    moved_value r c =
        let x = F (gamma (goes r)) in
        let y = F (gamma (goes c)) in
        let a = xor (turns r) (late r) in
        let b = xor (turns c) (late c) in
        (λ i. pairing n ((ap F (moved r) ∙ through a (gamma (goes r))) i) ((ap F (moved c) ∙ through b (gamma (goes c))) i))
        ∙ ap (expectation n) (paired-signed n a b x y)
        ∙ expectation-signed n a (signed b (paired n x y)) ∙ ap (turn a) (expectation-signed n b (paired n x y))

    pub step-holds : Holds n (step odd o t) (λ a. F (act (gamma a)))
    step-holds = record { turned = new; signs = λ i l. step-signs t D i (h.signs i l) odd o; entries = new-entries }
      where
        new : ℕ → Bool
        new i = xor (rest i) (late i)

        halfway : ℕ → ℕ → Value
        halfway r c = turn (turns r) (turn (rest (goes r)) (turn (rest c) (value (goes r) c)))

        rows' : (r c : ℕ) → r < 2 * n → c < 2 * n → nz (rows o (settled o t) r c) ≡ float (halfway r c)
        rows' = rows_are (2 * n) room (settled o t) (λ r c. turn (rest r) (turn (rest c) (value r c))) settled-are

        new-entries : (r c : ℕ) → r < 2 * n → c < 2 * n
            → nz ((step odd o t).m r c) ≡ float (turn (new r) (turn (new c) (pairing n (F (act (gamma r))) (F (act (gamma c))))))
        new-entries r c hr hc =
            cols-are (2 * n) room (rows o (settled o t)) halfway rows' r c hr hc
            ∙ (λ i. float (turn (turns c) (turn (turns r) (turn (rest-goes r i) (turn (rest-goes c i) (value (goes r) (goes c)))))))
            ∙ ap float
            (all-signs (turns r) (rest r) (late r) (turns c) (rest c) (late c) (value (goes r) (goes c))
            ∙ ap (λ v. turn (new r) (turn (new c) v)) (sym (moved_value r c)))
