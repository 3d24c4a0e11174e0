-- One step of the engine beside one of the plain engine: the plain matrix is the engine's under the signs that it postpones, up to the sign of a zero.
-- Any width, all floats. Assumes nothing.
use mathlib.Core.Path.{◌≡◌, refl, sym, ap, subst, ◌∙◌}
use mathlib.Core.Bool.{Bool, true, false, not, xor, ◌&&◌, cond, and-false}
use Prim.Native.Nat.{ℕ, ◌+◌, ◌*◌, ◌-◌, ◌≤◌, ◌<◌}
use native.Mathlib.Omega.{arith}
use lib.Dec.{T, leb}
use lib.Ieee.{Float, binary64, mul, lt, fits}
use Rattle.laws.specs.Zeros.{+0, +1, sg, nz}
use Rattle.laws.specs.Matrix.{Mat}
use Rattle.laws.specs.Maps.{Local, inside, dot, rows, cols}
use Rattle.laws.proofs.Negatives.{sg-comm, sg-xor, sg-cong, dot-sg}
use Rattle.laws.proofs.Fit.{times-sign, sg-fits, maps-fit}
use Rattle.local.specs.State.{State, get}
use Rattle.local.specs.Det.{odd}
use Rattle.local.specs.Apply.{later, settled, step}
use Rattle.local.proofs.Postponing.{left, left-at, below_is, step-signs}
use Rattle.plain.specs.Plain.{turned_from, plain_step}

-- an entry after the plain engine's step
pub plain-entry : (o : Local) (s : ℕ) (p : Mat) (r c : ℕ)
    → plain_step o s p r c ≡ sg (odd o && leb s r) (sg (odd o && leb s c) (cols o (rows o p) r c))
plain-entry o s p r c = by (odd o)
  where
    by : (b : Bool) → cond b (turned_from s (cols o (rows o p))) (cols o (rows o p)) r c
        ≡ sg (b && leb s r) (sg (b && leb s c) (cols o (rows o p) r c))
    by true = refl
    by false = refl

-- p is the covariance of t, which postpones some signs
pub record Postpones (n : ℕ) (p : Mat) (t : State) : Type 0 where
  pub turned : ℕ → Bool
  pub signs : (i : ℕ) → i < 2 * n → t.d i ≡ sg (turned i) +1
  pub same : (r c : ℕ) → r < 2 * n → c < 2 * n → nz (p r c) ≡ nz (sg (turned r) (sg (turned c) (t.m r c)))
  pub fit : (r c : ℕ) → r < 2 * n → c < 2 * n → T (fits binary64 (t.m r c))
  pub plain_fit : (r c : ℕ) → r < 2 * n → c < 2 * n → T (fits binary64 (p r c))

-- an entry as it is read
pub get-same : (n : ℕ) (p : Mat) (t : State) → Postpones n p t → (r c : ℕ) → r < 2 * n → c < 2 * n → nz (get t r c) ≡ nz (p r c)
get-same n p t h r c hr hc =
    let a = h.turned r in
    let b = h.turned c in
    let x = t.m r c in
    ap nz
    ((λ i. mul binary64 (mul binary64 x (h.signs r hr i)) (h.signs c hc i))
    ∙ ap (λ y. mul binary64 y (sg b +1)) (times-sign a x (h.fit r c hr hc)) ∙ times-sign b (sg a x) (sg-fits a x (h.fit r c hr hc))
    ∙ sg-comm b a x)
    ∙ sym (h.same r c hr hc)

-- an own sign is settled, any other is left
sg-part : (a i : Bool) (x : Float) → sg a x ≡ sg (a && not i) (sg (i && a) x)
sg-part false false x = refl
sg-part false true x = refl
sg-part true false x = refl
sg-part true true x = refl

module _ (o : Local) (n : ℕ) (room : o.start + o.width ≤ 2 * n) (p : Mat) (t : State) (h : Postpones n p t) where
  abbrev D : ℕ → Bool
  D = h.turned

  -- what is postponed after settling
  abbrev rest : ℕ → Bool
  rest = left o D

  abbrev late : ℕ → Bool
  late i = odd o && later o i

  low : (i : ℕ) → i < 2 * n → D i ≡ lt (t.d i) +0
  low i l = sym (below_is t D i (h.signs i l))

  settle-same : (r c : ℕ) → r < 2 * n → c < 2 * n → sg (D r) (sg (D c) (t.m r c)) ≡ sg (rest r) (sg (rest c) (settled o t r c))
  settle-same r c hr hc =
      let x = t.m r c in
      let a = inside o r && D r in
      let b = inside o c && D c in
      ap (sg (D r)) (sg-part (D c) (inside o c) x) ∙ sg-part (D r) (inside o r) (sg (rest c) (sg b x))
      ∙ ap (sg (rest r)) (sg-comm a (rest c) (sg b x))
      ∙ (λ i. sg (rest r) (sg (rest c) (sg (inside o r && low r hr i) (sg (inside o c && low c hc i) x))))

  -- rows under the map, where the rest of the signs stands before and after
  on-rows : (f g : Mat) → ((r c : ℕ) → r < 2 * n → c < 2 * n → nz (f r c) ≡ nz (sg (rest r) (sg (rest c) (g r c))))
      → (r c : ℕ) → r < 2 * n → c < 2 * n → nz (rows o f r c) ≡ nz (sg (rest r) (sg (rest c) (rows o g r c)))
  on-rows f g e r c hr hc = go (inside o r) (e r c hr hc)
    where
      q : ℕ → Float
      q = o.map (r - o.start)

      go : (b : Bool) → nz (f r c) ≡ nz (sg (D r && not b) (sg (rest c) (g r c)))
          → nz (cond b (dot q (λ j. f (o.start + j) c) o.width) (f r c))
          ≡ nz (sg (D r && not b) (sg (rest c) (cond b (dot q (λ j. g (o.start + j) c) o.width) (g r c))))
      go false k = k
      go true k =
          dot-sg (rest c) q q (λ j. f (o.start + j) c) (λ j. g (o.start + j) c) o.width (λ j l. refl)
          (λ j l. e (o.start + j) c (omega arith) hc ∙ ap (λ b. nz (sg b (sg (rest c) (g (o.start + j) c)))) (left-at o D j l))
          ∙ ap (λ b. nz (sg b (sg (rest c) (dot q (λ j. g (o.start + j) c) o.width)))) (sym (and-false (D r)))

  -- the same of columns: of the transposed matrices
  on-cols : (f g : Mat) → ((r c : ℕ) → r < 2 * n → c < 2 * n → nz (f r c) ≡ nz (sg (rest r) (sg (rest c) (g r c))))
      → (r c : ℕ) → r < 2 * n → c < 2 * n → nz (cols o f r c) ≡ nz (sg (rest r) (sg (rest c) (cols o g r c)))
  on-cols f g e r c hr hc =
      on-rows (λ a b. f b a) (λ a b. g b a) (λ a b ha hb. e b a hb ha ∙ ap nz (sg-comm (rest b) (rest a) (g b a))) c r hc hr
      ∙ ap nz (sg-comm (rest c) (rest r) (cols o g r c))

  -- THE STEP, where s is the first index after the map's
  pub step-same : (s : ℕ) → o.start + o.width ≡ s → Postpones n (plain_step o s p) (step odd o t)
  step-same s first_later = record {
    turned = λ i. xor (rest i) (late i);
    signs = λ i l. step-signs t D i (h.signs i l) odd o;
    same = all;
    fit = λ r c hr hc. maps-fit o (settled o t) r c
        (sg-fits (inside o r && lt (t.d r) +0) (sg (inside o c && lt (t.d c) +0) (t.m r c))
        (sg-fits (inside o c && lt (t.d c) +0) (t.m r c) (h.fit r c hr hc)));
    plain_fit = λ r c hr hc. subst (λ x. T (fits binary64 x)) (sym (plain-entry o s p r c))
        (sg-fits (odd o && leb s r) (sg (odd o && leb s c) (cols o (rows o p) r c))
        (sg-fits (odd o && leb s c) (cols o (rows o p) r c) (maps-fit o p r c (h.plain_fit r c hr hc))));
  }
    where
      first : (r c : ℕ) → r < 2 * n → c < 2 * n → nz (p r c) ≡ nz (sg (rest r) (sg (rest c) (settled o t r c)))
      first r c hr hc = h.same r c hr hc ∙ ap nz (settle-same r c hr hc)

      all : (r c : ℕ) → r < 2 * n → c < 2 * n
          → nz (plain_step o s p r c) ≡ nz (sg (xor (rest r) (late r)) (sg (xor (rest c) (late c)) ((step odd o t).m r c)))
      all r c hr hc =
          let x = cols o (rows o p) r c in
          let y = cols o (rows o (settled o t)) r c in
          let u = late r in
          let v = late c in
          let k = on-cols (rows o p) (rows o (settled o t)) (on-rows p (settled o t) first) r c hr hc in
          ap nz (plain-entry o s p r c) ∙ (λ i. nz (sg (odd o && leb (sym first_later i) r) (sg (odd o && leb (sym first_later i) c) x)))
          ∙ sg-cong u (sg v x) (sg v (sg (rest r) (sg (rest c) y))) (sg-cong v x (sg (rest r) (sg (rest c) y)) k)
          ∙ ap nz
          (ap (sg u) (sg-comm v (rest r) (sg (rest c) y)) ∙ sg-comm u (rest r) (sg v (sg (rest c) y)) ∙ sg-xor (rest r) u (sg v (sg (rest c) y))
          ∙ ap (sg (xor (rest r) u)) (sg-comm v (rest c) y ∙ sg-xor (rest c) v y))
