-- The chances of outcomes drawn mode by mode (specs/Shots.antt says what is proved): a projection is the elimination of a pair whose entries are shifted.
-- Assumes nothing.
use mathlib.Core.Path.{◌≡◌, refl, sym, ap, subst, ◌∙◌}
use mathlib.Core.Logic.{◌≢◌}
use mathlib.Core.Bool.{Bool, true, false, cond, ◌&&◌, xor}
use mathlib.Core.List.{List, [], ◌∷◌, map}
use Prim.Native.Nat.{ℕ, zero, suc, ◌+◌, ◌*◌, ◌/◌, ◌%◌, ◌≤◌, ◌<◌}
use native.Mathlib.Omega.{arith}
use lib.Dec.{eqb, ltb}
use lib.ListN.{length}
use borrow.Author.Tests.{ltb-true, ltb-false, lt-ltb, eqb-true, eqb-false}
use Rattle.laws.specs.Lists.{All}
use Rattle.rings.specs.Rings.{Ops, sg}
use Rattle.formulas.specs.Numbers.{Exact, Tests, Divides}
use Rattle.formulas.specs.Engine.{Mat, State, vacuum, get}
use Rattle.formulas.specs.Determinants.{odd, own_odd}
use Rattle.angles.specs.Qubits.{Operators}
use Rattle.angles.specs.Angles.{after, state_after}
use Rattle.formulas.specs.Pfaffians.{AllBelow, Apart, Distinct, Alternating, up}
use Rattle.angles.specs.Wick.{indices}
use Rattle.answers.specs.Marginals.{shifted, halved, all_read}
use Rattle.answers.specs.Shots.{Draws, NotNull, ShotsRight, ShotDraws, Drawing, shot, mab_of, chance_of, spin_of, den, projected, updated, after_mode}
use Rattle.answers.specs.Shots.{chances, Regular}
use Rattle.rings.proofs.Rings.{neg-neg}
use Rattle.rings.proofs.Solve.{var, unit, plus, times, minus, by-comm}
use Rattle.angles.proofs.Swaps.{P, factor, textbook}
use Rattle.angles.proofs.Agree.{P-agree}
use Rattle.angles.proofs.Products.{power, pfaffian-factor, all-indices, distinct-indices, length-indices}
use Rattle.angles.proofs.OwnPfaffian.{double, up-below}
use Rattle.angles.proofs.Runs.{every-angle}
use Rattle.angles.proofs.OwnOdd.{own-run}
use Rattle.answers.proofs.Products.{twice, right-alternates}
use Rattle.answers.proofs.Shifts.{unshifted, shift-at, shifted-alternates}
use Rattle.answers.proofs.Marginals.{signs, spins as list_spin, all-read}

-- ---- the modes of a shot

up-distinct : (k p : ℕ) → Distinct (up k p)
up-distinct k zero = tt
up-distinct k (suc p) = (apart (suc k) p (omega arith), up-distinct (suc k) p)
  where
    apart : (j p : ℕ) → k < j → Apart k (up j p)
    apart j zero l = tt
    apart j (suc p) l = ((λ e. omega (arith, l, e)), apart (suc j) p (omega (arith, l)))

up-size : (k p : ℕ) → length (up k p) ≡ p
up-size k zero = refl
up-size k (suc p) = ap suc (up-size (suc k) p)

module _ {𝓝 : Ops} {𝓣 : Tests 𝓝} (𝓥 : Divides 𝓝 𝓣) {below : 𝓝.N → Bool} (𝓔 : Exact 𝓝 below) (𝓓 : Draws 𝓝)
    (not-null : NotNull 𝓣 𝓓) where
  open 𝓝 use {N, zero as 𝟘, one as 𝟙, add as ◌⊹◌, mul as ◌⋆◌, neg}

  infixl 65 ◌⊹◌
  infixl 70 ◌⋆◌
  abbrev h : N
  h = 𝓔.half

  abbrev Q : Mat 𝓝 → ℕ → List ℕ → N
  Q = P 𝓝

  -- ---- the projected matrix

  module _ (dim : ℕ) (m : Mat 𝓝) (𝓜 : Alternating 𝓝 dim m) (f : N) (k : ℕ) (hk : 2 * k + 1 < dim) where
    abbrev pr : Mat 𝓝
    pr = projected 𝓝 h 𝓣 𝓓 m f k

    pr-turns : (i j : ℕ) → i < dim → j < dim → pr i j ≡ neg (pr j i)
    unfolding xor
    pr-turns i j hi hj =
        ap (λ a. a ⊹ f ⋆ (m i (2 * k + 1) ⋆ m j (2 * k) ⊹ neg (m i (2 * k) ⋆ m j (2 * k + 1)))) (𝓜.turns i j hi hj)
        ∙ by-comm 𝓔.laws (m j i ∷ f ∷ m i (2 * k + 1) ∷ m j (2 * k) ∷ m i (2 * k) ∷ m j (2 * k + 1) ∷ [])
        (plus (minus (var 0)) (times (var 1) (plus (times (var 2) (var 3)) (minus (times (var 4) (var 5))))))
        (minus (plus (var 0) (times (var 1) (plus (times (var 5) (var 4)) (minus (times (var 3) (var 2))))))) refl

    pr-same : (i : ℕ) → m i i ≡ pr i i
    unfolding xor
    pr-same i =
        by-comm 𝓔.laws (m i i ∷ f ∷ m i (2 * k + 1) ∷ m i (2 * k) ∷ []) (var 0)
        (plus (var 0) (times (var 1) (plus (times (var 2) (var 3)) (minus (times (var 3) (var 2)))))) refl

    updated-is : (i j : ℕ) → i < dim → j < dim → 2 * k + 1 < i → 2 * k + 1 < j → updated 𝓝 h 𝓣 𝓓 m f k i j ≡ pr i j
    updated-is i j hi hj li lj =
        ap (λ t. cond (t && ltb (2 * k + 1) j) inner (m i j)) (lt-ltb (2 * k + 1) i li)
        ∙ ap (λ t. cond t inner (m i j)) (lt-ltb (2 * k + 1) j lj)
        ∙ by (ltb i j) refl (ltb j i) refl
      where
        inner : N
        inner = cond (ltb i j) (pr i j) (cond (ltb j i) (neg (pr j i)) (m i j))

        by : (c : Bool) → ltb i j ≡ c → (d : Bool) → ltb j i ≡ d → cond c (pr i j) (cond d (neg (pr j i)) (m i j)) ≡ pr i j
        by true e d g = refl
        by false e true g = sym (pr-turns i j hi hj)
        by false e false g = subst (λ x. m i x ≡ pr i x) (same (ltb-false i j e) (ltb-false j i g)) (pr-same i)
          where
            same : j ≤ i → i ≤ j → i ≡ j
            same x y = omega (arith, x, y)

    updated-alternates : Alternating 𝓝 dim (updated 𝓝 h 𝓣 𝓓 m f k)
    updated-alternates = record { turns = turns; nought-at = nought-at }
      where
        turns : (i j : ℕ) → i < dim → j < dim → updated 𝓝 h 𝓣 𝓓 m f k i j ≡ neg (updated 𝓝 h 𝓣 𝓓 m f k j i)
        turns i j hi hj = by (ltb (2 * k + 1) i) (ltb (2 * k + 1) j) (ltb i j) (ltb j i)
          where
            by : (s t c d : Bool) → cond (s && t) (cond c (pr i j) (cond d (neg (pr j i)) (m i j))) (m i j)
                ≡ neg (cond (t && s) (cond d (pr j i) (cond c (neg (pr i j)) (m j i))) (m j i))
            by true true true true = pr-turns i j hi hj
            by true true true false = sym (neg-neg 𝓔.laws.ring (pr i j))
            by true true false true = refl
            by true true false false = 𝓜.turns i j hi hj
            by true false c d = 𝓜.turns i j hi hj
            by false true c d = 𝓜.turns i j hi hj
            by false false c d = 𝓜.turns i j hi hj

        nought-at : (i : ℕ) → i < dim → updated 𝓝 h 𝓣 𝓓 m f k i i ≡ 𝟘
        nought-at i hi = by (ltb (2 * k + 1) i) (ltb i i) refl
          where
            by : (s c : Bool) → ltb i i ≡ c → cond (s && s) (cond c (pr i i) (cond c (neg (pr i i)) (m i i))) (m i i) ≡ 𝟘
            by false c e = 𝓜.nought-at i hi
            by true true e = absurd (never (ltb-true i i e))
              where
                never : i < i → ⊥
                never x = omega (arith, x)
            by true false e = 𝓜.nought-at i hi

  -- ---- one mode

  -- s (1 + s x) = x + s
  spins : (t : Bool) (x : N) → sg 𝓝 t 𝟙 ⋆ (𝟙 ⊹ sg 𝓝 t 𝟙 ⋆ x) ≡ x ⊹ sg 𝓝 t 𝟙
  unfolding xor
  spins false x = by-comm 𝓔.laws (x ∷ []) (times unit (plus unit (times unit (var 0)))) (plus (var 0) unit) refl
  spins true x = by-comm 𝓔.laws (x ∷ []) (times (minus unit) (plus unit (times (minus unit) (var 0)))) (plus (var 0) (minus unit)) refl

  square : (t : Bool) → sg 𝓝 t 𝟙 ⋆ sg 𝓝 t 𝟙 ≡ 𝟙
  unfolding xor
  square false = 𝓔.laws.ring.one-mul 𝟙
  square true = by-comm 𝓔.laws [] (times (minus unit) (minus unit)) unit refl

  -- the chance times what is left
  chance-is : (t : Bool) (x σ w y : N) → sg 𝓝 t σ ⋆ (h ⋆ w ⋆ ((x ⊹ sg 𝓝 t 𝟙) ⋆ y)) ≡ chance_of 𝓝 h 𝓣 𝓓 x t ⋆ (σ ⋆ (w ⋆ y))
  unfolding xor
  chance-is false x σ w y =
      by-comm 𝓔.laws (x ∷ σ ∷ w ∷ y ∷ h ∷ []) (times (var 1) (times (times (var 4) (var 2)) (times (plus (var 0) unit) (var 3))))
      (times (times (var 4) (plus unit (var 0))) (times (var 1) (times (var 2) (var 3)))) refl
  chance-is true x σ w y =
      by-comm 𝓔.laws (x ∷ σ ∷ w ∷ y ∷ h ∷ []) (times (minus (var 1)) (times (times (var 4) (var 2)) (times (plus (var 0) (minus unit)) (var 3))))
      (times (plus (plus (var 4) (var 4)) (minus (times (var 4) (plus unit (var 0))))) (times (var 1) (times (var 2) (var 3)))) refl
      ∙ ap (λ a. (a ⊹ neg (h ⋆ (𝟙 ⊹ x))) ⋆ (σ ⋆ (w ⋆ y))) 𝓔.halves

  module _ (o : ℕ → Bool) where
    abbrev s : ℕ → N
    s j = sg 𝓝 (o j) 𝟙

    -- the shift does not mind what is added to an entry
    shift-more : (m l : Mat 𝓝) (x : N) (i j : ℕ) → l i j ≡ m i j ⊹ x → shifted 𝓝 h s l i j ≡ shifted 𝓝 h s m i j ⊹ x
    unfolding xor
    shift-more m l x i j e = by (eqb (i % 2) 0 && eqb j (i + 1)) (eqb (j % 2) 0 && eqb i (j + 1))
      where
        by : (a b : Bool)
            → cond a (l i j ⊹ s (i / 2)) (cond b (l i j ⊹ neg (s (i / 2))) (l i j)) ≡ cond a (m i j ⊹ s (i / 2)) (cond b (m i j ⊹ neg (s (i / 2))) (m i j)) ⊹ x
        by true b =
            ap (λ y. y ⊹ s (i / 2)) e
            ∙ by-comm 𝓔.laws (m i j ∷ x ∷ s (i / 2) ∷ []) (plus (plus (var 0) (var 1)) (var 2)) (plus (plus (var 0) (var 2)) (var 1)) refl
        by false true =
            ap (λ y. y ⊹ neg (s (i / 2))) e
            ∙ by-comm 𝓔.laws (m i j ∷ x ∷ s (i / 2) ∷ []) (plus (plus (var 0) (var 1)) (minus (var 2))) (plus (plus (var 0) (minus (var 2))) (var 1)) refl
        by false false = e

    module _ (dim : ℕ) (m : Mat 𝓝) (𝓜 : Alternating 𝓝 dim m) (k : ℕ) (hk : 2 * k + 1 < dim) (inside : mab_of 𝓝 h 𝓣 𝓓 m k ≡ m (2 * k) (2 * k + 1))
        (live : 𝓓.tiny (den 𝓝 h 𝓣 𝓓 m k (o k)) ≡ false) where
      abbrev f : N
      f = 𝓣.div (spin_of 𝓝 h 𝓣 𝓓 (o k)) (den 𝓝 h 𝓣 𝓓 m k (o k))

      abbrev A : Mat 𝓝
      A = shifted 𝓝 h s m

      u-below : 2 * k < dim
      u-below = omega (arith, hk)

      inverse : f ⋆ A (2 * k) (2 * k + 1) ≡ 𝟙
      inverse =
          ap (λ y. f ⋆ y) (shift-at 𝓔.laws h s m k ∙ sym (spins (o k) (m (2 * k) (2 * k + 1))) ∙ ap (λ y. sg 𝓝 (o k) 𝟙 ⋆ (𝟙 ⊹ sg 𝓝 (o k) 𝟙 ⋆ y)) (sym inside)
          ∙ 𝓔.laws.comm (sg 𝓝 (o k) 𝟙) (den 𝓝 h 𝓣 𝓓 m k (o k)))
          ∙ sym (𝓔.laws.ring.mul-assoc f (den 𝓝 h 𝓣 𝓓 m k (o k)) (sg 𝓝 (o k) 𝟙))
          ∙ ap (λ y. y ⋆ sg 𝓝 (o k) 𝟙) (𝓥.quotient (spin_of 𝓝 h 𝓣 𝓓 (o k)) (den 𝓝 h 𝓣 𝓓 m k (o k)) (not-null (den 𝓝 h 𝓣 𝓓 m k (o k)) live))
          ∙ square (o k)

      t-is : (j : ℕ) → f ⋆ A (2 * k) j ⋆ A (2 * k) (2 * k + 1) ≡ A (2 * k) j
      t-is j =
          ap (λ y. y ⋆ A (2 * k) (2 * k + 1)) (𝓔.laws.comm f (A (2 * k) j)) ∙ 𝓔.laws.ring.mul-assoc (A (2 * k) j) f (A (2 * k) (2 * k + 1))
          ∙ ap (λ y. A (2 * k) j ⋆ y) inverse
          ∙ 𝓔.laws.ring.mul-one (A (2 * k) j)

      abbrev lesser : Mat 𝓝
      lesser i j = A i j ⊹ (neg (f ⋆ A (2 * k) i) ⋆ A (2 * k + 1) j ⊹ f ⋆ A (2 * k) j ⋆ A (2 * k + 1) i)

      abbrev Later : ℕ → Type 0
      Later i = (2 * k + 1 < i) × (i < dim)

      far : (i : ℕ) → 2 * k + 1 < i → ((2 * k) / 2 ≢ i / 2) × ((2 * k + 1) / 2 ≢ i / 2)
      far i l = ((λ e. omega (arith, l, e)), (λ e. omega (arith, l, e)))

      lesser-is : (i j : ℕ) → Later i → Later j → lesser i j ≡ shifted 𝓝 h s (updated 𝓝 h 𝓣 𝓓 m f k) i j
      unfolding xor
      lesser-is i j li lj =
          (λ x. A i j ⊹ (neg (f ⋆ unshifted 𝓔.laws h s m (2 * k) i (far i li.0).0 x) ⋆ unshifted 𝓔.laws h s m (2 * k + 1) j (far j lj.0).1 x
          ⊹ f ⋆ unshifted 𝓔.laws h s m (2 * k) j (far j lj.0).0 x ⋆ unshifted 𝓔.laws h s m (2 * k + 1) i (far i li.0).1 x))
          ∙ sym (shift-more m (updated 𝓝 h 𝓣 𝓓 m f k) (neg (f ⋆ m (2 * k) i) ⋆ m (2 * k + 1) j ⊹ f ⋆ m (2 * k) j ⋆ m (2 * k + 1) i) i j
          (updated-is dim m 𝓜 f k hk i j li.1 lj.1 li.0 lj.0
          ∙ (λ x. m i j
          ⊹ f ⋆ (𝓜.turns i (2 * k + 1) li.1 hk x ⋆ 𝓜.turns j (2 * k) lj.1 u-below x ⊹ neg (𝓜.turns i (2 * k) li.1 u-below x ⋆ 𝓜.turns j (2 * k + 1) lj.1 hk x)))
          ∙ by-comm 𝓔.laws (m i j ∷ f ∷ m (2 * k) i ∷ m (2 * k) j ∷ m (2 * k + 1) i ∷ m (2 * k + 1) j ∷ [])
          (plus (var 0) (times (var 1) (plus (times (minus (var 4)) (minus (var 3))) (minus (times (minus (var 2)) (minus (var 5)))))))
          (plus (var 0) (plus (times (minus (times (var 1) (var 2))) (var 5)) (times (times (var 1) (var 3)) (var 4)))) refl))

      -- a projection is an elimination
      projection : (q : ℕ) (xs : List ℕ) → AllBelow dim xs → All Later xs
          → Q A (suc q) ((2 * k) ∷ (2 * k + 1) ∷ xs) ≡ (m (2 * k) (2 * k + 1) ⊹ s k) ⋆ Q (shifted 𝓝 h s (updated 𝓝 h 𝓣 𝓓 m f k)) q xs
      projection q xs b l =
          sym (factor 𝓔.laws dim A (shifted-alternates 𝓔.laws h dim s m 𝓜) (2 * k) (2 * k + 1) u-below hk (λ j. f ⋆ A (2 * k) j) t-is f inverse q xs b)
          ∙ (λ x. shift-at 𝓔.laws h s m k x ⋆ P-agree 𝓔.laws Later lesser (shifted 𝓝 h s (updated 𝓝 h 𝓣 𝓓 m f k)) lesser-is q xs l x)

    -- ---- all modes

    up-later : (lo dim i n : ℕ) → lo < i → i + n ≤ dim → All (λ x. (lo < x) × (x < dim)) (up i n)
    up-later lo dim i zero l b = tt
    up-later lo dim i (suc n) l b = ((l, omega (arith, b)), up-later lo dim (suc i) n (omega (arith, l)) (omega (arith, b)))

    all-modes : (p k : ℕ) (m : Mat 𝓝) (dim q : ℕ) → Alternating 𝓝 dim m → 2 * k + double p ≡ dim → p < q → Regular 𝓝 h 𝓣 𝓓 m k p o
        → signs 𝓔 o (up k p) ⋆ (power 𝓝 h p ⋆ Q (shifted 𝓝 h s m) q (up (2 * k) (double p))) ≡ chances 𝓝 h 𝓣 𝓓 m k p o
    unfolding chances Regular power P
    all-modes p k m dim zero 𝓜 e l r = absurd (omega (arith, l))
    all-modes zero k m dim (suc q) 𝓜 e l r = 𝓔.laws.ring.one-mul (𝟙 ⋆ 𝟙) ∙ 𝓔.laws.ring.one-mul 𝟙
    all-modes (suc p) k m dim (suc q) 𝓜 e l r =
        ap (λ w. sg 𝓝 (o k) σ ⋆ (h ⋆ power 𝓝 h p ⋆ w))
        ((λ i. Q (shifted 𝓝 h s m) (suc q) ((2 * k) ∷ next i ∷ up (suc (next i)) (double p)))
        ∙ projection dim m 𝓜 k hk r.0 r.1 q (up (suc (2 * k + 1)) (double p)) (up-below dim (suc (2 * k + 1)) (double p) (omega (arith, e)))
        (up-later (2 * k + 1) dim (suc (2 * k + 1)) (double p) (omega arith) (omega (arith, e))))
        ∙ chance-is (o k) (m (2 * k) (2 * k + 1)) σ (power 𝓝 h p) (Q (shifted 𝓝 h s m') q (up (suc (2 * k + 1)) (double p)))
        ∙ (λ i. chance_of 𝓝 h 𝓣 𝓓 (sym r.0 i) (o k) ⋆ (σ ⋆ (power 𝓝 h p ⋆ Q (shifted 𝓝 h s m') q (up (after-next i) (double p)))))
        ∙ ap (λ w. chance_of 𝓝 h 𝓣 𝓓 (mab_of 𝓝 h 𝓣 𝓓 m k) (o k) ⋆ w)
        (all-modes p (suc k) m' dim q (updated-alternates dim m 𝓜 f' k hk) (omega (arith, e)) (omega (arith, l))
        (subst (λ x. Regular 𝓝 h 𝓣 𝓓 x (suc k) p o) moved r.2)
        ∙ ap (λ x. chances 𝓝 h 𝓣 𝓓 x (suc k) p o) (sym moved))
      where
        σ : N
        σ = signs 𝓔 o (up (suc k) p)

        f' : N
        f' = 𝓣.div (spin_of 𝓝 h 𝓣 𝓓 (o k)) (den 𝓝 h 𝓣 𝓓 m k (o k))

        m' : Mat 𝓝
        m' = updated 𝓝 h 𝓣 𝓓 m (𝓣.div (spin_of 𝓝 h 𝓣 𝓓 (o k)) (den 𝓝 h 𝓣 𝓓 m k (o k))) k

        hk : 2 * k + 1 < dim
        hk = omega (arith, e)

        next : suc (2 * k) ≡ 2 * k + 1
        next = omega arith

        after-next : suc (2 * k + 1) ≡ 2 * suc k
        after-next = omega arith

        moved : after_mode 𝓝 h 𝓣 𝓓 m k (o k) ≡ updated 𝓝 h 𝓣 𝓓 m (𝓣.div (spin_of 𝓝 h 𝓣 𝓓 (o k)) (den 𝓝 h 𝓣 𝓓 m k (o k))) k
        moved = ap (λ b. cond b m (updated 𝓝 h 𝓣 𝓓 m (𝓣.div (spin_of 𝓝 h 𝓣 𝓓 (o k)) (den 𝓝 h 𝓣 𝓓 m k (o k))) k)) r.1

    -- ---- the same by halves, as marginals have it

    spin-up : (p k x : ℕ) → k ≤ x → x < k + p → list_spin 𝓔 o (up k p) x ≡ sg 𝓝 (o x) h
    spin-up zero k x l u = absurd (omega (arith, l, u))
    spin-up (suc p) k x l u = by (eqb x k) refl (λ a b. spin-up p (suc k) x a b)
      where
        by : (t : Bool) → eqb x k ≡ t → (suc k ≤ x → x < suc k + p → list_spin 𝓔 o (up (suc k) p) x ≡ sg 𝓝 (o x) h)
            → cond t (sg 𝓝 (o k) h) (list_spin 𝓔 o (up (suc k) p) x) ≡ sg 𝓝 (o x) h
        by true e ih = ap (λ y. sg 𝓝 (o y) h) (sym (eqb-true x k e))
        by false e ih = ih (omega (arith, l, eqb-false x k e)) (omega (arith, u))

    half-sum : (t : Bool) (x : N) → h ⋆ x ⊹ sg 𝓝 t h ≡ h ⋆ (x ⊹ sg 𝓝 t 𝟙)
    unfolding xor
    half-sum false x = by-comm 𝓔.laws (h ∷ x ∷ []) (plus (times (var 0) (var 1)) (var 0)) (times (var 0) (plus (var 1) unit)) refl
    half-sum true x = by-comm 𝓔.laws (h ∷ x ∷ []) (plus (times (var 0) (var 1)) (minus (var 0))) (times (var 0) (plus (var 1) (minus unit))) refl

    half-less : (t : Bool) (x : N) → h ⋆ x ⊹ neg (sg 𝓝 t h) ≡ h ⋆ (x ⊹ neg (sg 𝓝 t 𝟙))
    unfolding xor
    half-less false x = by-comm 𝓔.laws (h ∷ x ∷ []) (plus (times (var 0) (var 1)) (minus (var 0))) (times (var 0) (plus (var 1) (minus unit))) refl
    half-less true x =
        by-comm 𝓔.laws (h ∷ x ∷ []) (plus (times (var 0) (var 1)) (minus (minus (var 0)))) (times (var 0) (plus (var 1) (minus (minus unit)))) refl

    by-halves : (m : Mat 𝓝) (w : ℕ → N) (i j : ℕ) → w (i / 2) ≡ sg 𝓝 (o (i / 2)) h → shifted 𝓝 h w (halved 𝓝 h m) i j ≡ h ⋆ shifted 𝓝 h s m i j
    by-halves m w i j e = by (eqb (i % 2) 0 && eqb j (i + 1)) (eqb (j % 2) 0 && eqb i (j + 1))
      where
        by : (a b : Bool) → cond a (h ⋆ m i j ⊹ w (i / 2)) (cond b (h ⋆ m i j ⊹ neg (w (i / 2))) (h ⋆ m i j))
            ≡ h ⋆ cond a (m i j ⊹ s (i / 2)) (cond b (m i j ⊹ neg (s (i / 2))) (m i j))
        by true b = ap (λ y. h ⋆ m i j ⊹ y) e ∙ half-sum (o (i / 2)) (m i j)
        by false true = ap (λ y. h ⋆ m i j ⊹ neg y) e ∙ half-less (o (i / 2)) (m i j)
        by false false = refl

    indices-up : (p k : ℕ) → indices (up k p) ≡ up (2 * k) (double p)
    indices-up zero k = refl
    indices-up (suc p) k = λ i. (2 * k) ∷ next i ∷ (indices-up p (suc k) ∙ ap (λ x. up x (double p)) after-next) i
      where
        next : 2 * k + 1 ≡ suc (2 * k)
        next = omega arith

        after-next : 2 * suc k ≡ suc (suc (2 * k))
        after-next = omega arith

    whole : (m : Mat 𝓝) (p : ℕ)
        → Q (shifted 𝓝 h (list_spin 𝓔 o (up 0 p)) (halved 𝓝 h m)) (suc p) (indices (up 0 p)) ≡ power 𝓝 h p ⋆ Q (shifted 𝓝 h s m) (suc p) (up 0 (double p))
    whole m p =
        P-agree 𝓔.laws (λ x. x < 2 * p) (shifted 𝓝 h (list_spin 𝓔 o (up 0 p)) (halved 𝓝 h m)) (λ i j. h ⋆ shifted 𝓝 h s m i j)
        (λ i j hi hj. by-halves m (list_spin 𝓔 o (up 0 p)) i j (spin-up p 0 (i / 2) (omega arith) (omega (arith, hi)))) (suc p) (indices (up 0 p)) few
        ∙ sym (textbook 𝓔.laws (λ i j. h ⋆ shifted 𝓝 h s m i j) p (indices (up 0 p)))
        ∙ pfaffian-factor 𝓔.laws (2 * p) h (λ i j. h ⋆ shifted 𝓝 h s m i j) (shifted 𝓝 h s m) (λ r c hr hc d. refl) p (indices (up 0 p)) few
        (distinct-indices (up 0 p) (up-distinct 0 p))
        ∙ (λ i. power 𝓝 h ((length-indices (up 0 p) ∙ up-size 0 p) i) ⋆
        (textbook 𝓔.laws (shifted 𝓝 h s m) p (indices (up 0 p)) ∙ ap (Q (shifted 𝓝 h s m) (suc p)) (indices-up p 0)) i)
      where
        few : AllBelow (2 * p) (indices (up 0 p))
        few = all-indices p (up 0 p) (up-below p 0 p (omega arith))

module _ {𝓝 : Ops} {𝓣 : Tests 𝓝} (𝓥 : Divides 𝓝 𝓣) (𝓓 : Draws 𝓝) {below : 𝓝.N → Bool} (𝓔 : Exact 𝓝 below) {n : ℕ} {𝓐 : Ops} (𝓠 : Operators 𝓝 𝓔.i n 𝓐) where
  pub shots-right : ShotsRight 𝓣 𝓓 𝓔 𝓠 (own_odd 𝓝 𝓣 below)
  unfolding power
  shots-right not-null gs o p hp r =
      ap (λ t. chances 𝓝 𝓔.half 𝓣 𝓓 (get 𝓝 t) 0 p o) (sym same)
      ∙ sym (all-modes 𝓥 𝓔 𝓓 not-null o p 0 (get 𝓝 t) (double p) (suc p) alternates zero-sum (omega arith)
      (subst (λ t. Regular 𝓝 𝓔.half 𝓣 𝓓 (get 𝓝 t) 0 p o) (sym same) r))
      ∙ ap (𝓝.mul (signs 𝓔 o (up 0 p))) (sym (whole 𝓥 𝓔 𝓓 not-null o (get 𝓝 t) p))
      ∙ all-read 𝓔 𝓠 gs o (up 0 p) [] (suc p) tt (up-below n 0 p (omega (arith, hp))) (up-distinct 0 p) enough
      ∙ 𝓔.laws.ring.one-mul (after 𝓠 gs (𝓐.mul 𝓐.one (all_read 𝓔 𝓠 o (up 0 p))))
      ∙ ap (after 𝓠 gs) (𝓠.ring.one-mul (all_read 𝓔 𝓠 o (up 0 p)))
    where
      t : State 𝓝
      t = state_after 𝓔 𝓠 (odd 𝓝 below) gs

      same : state_after 𝓔 𝓠 (odd 𝓝 below) gs ≡ state_after 𝓔 𝓠 (own_odd 𝓝 𝓣 below) gs
      same = own-run 𝓥 𝓔 𝓠 gs (vacuum 𝓝)

      zero-sum : 2 * 0 + double p ≡ double p
      zero-sum = omega arith

      alternates : Alternating 𝓝 (double p) (get 𝓝 t)
      alternates = record {
        turns = λ i j hi hj. (right-alternates 𝓔 𝓠 gs t (every-angle 𝓔 𝓠 gs)).turns i j (omega (arith, hi, hp, twice p)) (omega (arith, hj, hp, twice p));
        nought-at = λ i hi. (right-alternates 𝓔 𝓠 gs t (every-angle 𝓔 𝓠 gs)).nought-at i (omega (arith, hi, hp, twice p));
      }

      enough : length (indices (up 0 p)) < 2 * suc p
      enough = omega (arith, length-indices (up 0 p), up-size 0 p)

-- ---- what the draws give

module _ (𝓝 : Ops) (half : 𝓝.N) (𝓣 : Tests 𝓝) (𝓓 : Draws 𝓝) where
  draws-shot : (m : Mat 𝓝) (k n : ℕ) (t : ℕ → 𝓝.N) (o : ℕ → Bool) → Drawing 𝓝 half 𝓣 𝓓 m k n t o → shot 𝓝 half 𝓣 𝓓 m k n t ≡ map o (up k n)
  unfolding shot Drawing
  draws-shot m k zero t o d = refl
  draws-shot m k (suc n) t o d =
      (λ i. d.0 i ∷ shot 𝓝 half 𝓣 𝓓 (after_mode 𝓝 half 𝓣 𝓓 m k (d.0 i)) (suc k) n t)
      ∙ ap (λ os. o k ∷ os) (draws-shot (after_mode 𝓝 half 𝓣 𝓓 m k (o k)) (suc k) n t o d.1)

  first : List Bool → Bool
  first [] = false
  first (b ∷ bs) = b

  others : List Bool → List Bool
  others [] = []
  others (b ∷ bs) = bs

  shot-drawing : (m : Mat 𝓝) (k n : ℕ) (t : ℕ → 𝓝.N) (o : ℕ → Bool) → shot 𝓝 half 𝓣 𝓓 m k n t ≡ map o (up k n) → Drawing 𝓝 half 𝓣 𝓓 m k n t o
  unfolding shot Drawing first others
  shot-drawing m k zero t o e = tt
  shot-drawing m k (suc n) t o e = (
    ap first e,
    shot-drawing (after_mode 𝓝 half 𝓣 𝓓 m k (o k)) (suc k) n t o
        (ap (λ b. shot 𝓝 half 𝓣 𝓓 (after_mode 𝓝 half 𝓣 𝓓 m k b) (suc k) n t) (sym (ap first e)) ∙ ap others e),
  )

  pub shot-draws : ShotDraws 𝓝 half 𝓣 𝓓
  shot-draws m k n t o = (draws-shot m k n t o, shot-drawing m k n t o)
