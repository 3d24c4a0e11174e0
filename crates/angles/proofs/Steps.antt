-- One block: the covariance of a functional that the block has been put in front of is the engine's formula applied to the covariance before.
-- Assumes nothing.
use mathlib.Core.Path.{◌≡◌, refl, sym, ap, ◌∙◌}
use mathlib.Core.Bool.{Bool, true, false, cond, ◌&&◌, and-true, and-false}
use Prim.Native.Nat.{ℕ, zero, suc, ◌+◌, ◌*◌, ◌-◌, ◌<◌}
use Rattle.rings.specs.Rings.{Ops, IsRing, sg}
use Rattle.formulas.specs.Numbers.{Exact}
use Rattle.formulas.specs.Engine.{Mat, Local, inside, later, dot, rows, cols}
use Rattle.angles.specs.Postponed.{plain}
use Rattle.formulas.specs.Determinants.{det, odd}
use Rattle.angles.specs.Qubits.{Operators, gamma}
use Rattle.angles.specs.Angles.{combined, Block, operation, acts}
use Rattle.rings.proofs.Rings.{mul-neg, neg-neg, sg-mul, sg-swap, neg-sum, zero-mul, mul-zero, neg-unique, middle}
use Rattle.angles.proofs.Indices.{Place, before, within, after, place}
use Rattle.angles.proofs.Postponed.{dot-sg}
use Rattle.angles.proofs.Majoranas.{num-zero}
use Rattle.angles.proofs.Blocks.{acts-add, acts-mul, acts-num, acts-neg, earlier, later-gamma, det-sign}

module _ {𝓝 : Ops} {below : 𝓝.N → Bool} (𝓔 : Exact 𝓝 below) {n : ℕ} {𝓐 : Ops} (𝓠 : Operators 𝓝 𝓔.i n 𝓐) where
  open 𝓐 use {N, zero as 𝟘, add as ◌⊹◌, mul as ◌⋆◌, neg}

  infixl 65 ◌⊹◌
  infixl 70 ◌⋆◌
  abbrev 𝓛 : IsRing 𝓐
  𝓛 = 𝓠.ring

  -- ---- linear functionals

  pub record Linear (f : N → 𝓝.N) : Type 0 where
    pub adds : (a b : N) → f (a ⊹ b) ≡ 𝓝.add (f a) (f b)
    pub nums : (s : 𝓝.N) (a : N) → f (𝓠.num s ⋆ a) ≡ 𝓝.mul s (f a)

  module _ (f : N → 𝓝.N) (l : Linear f) where
    pub lin-zero : f 𝟘 ≡ 𝓝.zero
    lin-zero = ap f (sym (ap (λ s. s ⋆ 𝟘) (num-zero 𝓔 𝓠) ∙ mul-zero 𝓛 𝟘)) ∙ l.nums 𝓝.zero 𝟘 ∙ zero-mul 𝓔.laws.ring (f 𝟘)

    pub lin-neg : (a : N) → f (neg a) ≡ 𝓝.neg (f a)
    lin-neg a = neg-unique 𝓔.laws.ring (f a) (f (neg a)) (sym (l.adds a (neg a)) ∙ ap f (𝓛.add-neg a) ∙ lin-zero)

    lin-combined : (q : ℕ → 𝓝.N) (g : ℕ → N) (k : ℕ) → f (combined 𝓠 q g k) ≡ dot 𝓝 q (λ j. f (g j)) k
    unfolding combined dot
    lin-combined q g zero = lin-zero
    lin-combined q g (suc k) =
        l.adds (combined 𝓠 q g k) (𝓠.num (q k) ⋆ g k) ∙ (λ i. 𝓝.add (lin-combined q g k i) (l.nums (q k) (g k) i))

  -- ---- -i / 2 times the commutator, under a functional, is linear in both

  -- -i / 2
  abbrev pub eta : 𝓝.N
  eta = 𝓝.mul 𝓔.half (𝓝.neg 𝓔.i)

  -- -i / 2 (a b - b a)
  unfoldable pub bracket : N → N → N
  bracket a b = 𝓠.num eta ⋆ (a ⋆ b ⊹ neg (b ⋆ a))

  bracket-add-left : (a b c : N) → bracket (a ⊹ b) c ≡ bracket a c ⊹ bracket b c
  unfolding bracket
  bracket-add-left a b c =
      ap (λ y. 𝓠.num eta ⋆ y)
      ((λ i. 𝓛.right a b c i ⊹ neg (𝓛.left c a b i))
      ∙ ap (λ y. a ⋆ c ⊹ b ⋆ c ⊹ y) (neg-sum 𝓛 (c ⋆ a) (c ⋆ b))
      ∙ middle 𝓛 (a ⋆ c) (b ⋆ c) (neg (c ⋆ a)) (neg (c ⋆ b)))
      ∙ 𝓛.left (𝓠.num eta) (a ⋆ c ⊹ neg (c ⋆ a)) (b ⋆ c ⊹ neg (c ⋆ b))

  -- numbers move to the front
  pub move : (s : 𝓝.N) (a b : N) → a ⋆ (𝓠.num s ⋆ b) ≡ 𝓠.num s ⋆ (a ⋆ b)
  move s a b = sym (𝓛.mul-assoc a (𝓠.num s) b) ∙ ap (λ c. c ⋆ b) (sym (𝓠.central s a)) ∙ 𝓛.mul-assoc (𝓠.num s) a b

  bracket-num-left : (s : 𝓝.N) (a c : N) → bracket (𝓠.num s ⋆ a) c ≡ 𝓠.num s ⋆ bracket a c
  unfolding bracket
  bracket-num-left s a c =
      ap (λ y. 𝓠.num eta ⋆ y)
      ((λ i. 𝓛.mul-assoc (𝓠.num s) a c i ⊹ neg (move s c a i))
      ∙ ap (λ y. 𝓠.num s ⋆ (a ⋆ c) ⊹ y) (sym (mul-neg 𝓛 (𝓠.num s) (c ⋆ a)))
      ∙ sym (𝓛.left (𝓠.num s) (a ⋆ c) (neg (c ⋆ a))))
      ∙ move s (𝓠.num eta) (a ⋆ c ⊹ neg (c ⋆ a))

  bracket-swap : (a b : N) → bracket a b ≡ neg (bracket b a)
  unfolding bracket
  bracket-swap a b =
      ap (λ y. 𝓠.num eta ⋆ y)
      (𝓛.add-comm (a ⋆ b) (neg (b ⋆ a))
      ∙ ap (λ y. neg (b ⋆ a) ⊹ y) (sym (neg-neg 𝓛 (a ⋆ b)))
      ∙ sym (neg-sum 𝓛 (b ⋆ a) (neg (a ⋆ b))))
      ∙ mul-neg 𝓛 (𝓠.num eta) (b ⋆ a ⊹ neg (a ⋆ b))

  bracket-add-right : (a b c : N) → bracket c (a ⊹ b) ≡ bracket c a ⊹ bracket c b
  bracket-add-right a b c =
      bracket-swap c (a ⊹ b) ∙ ap neg (bracket-add-left a b c) ∙ neg-sum 𝓛 (bracket a c) (bracket b c)
      ∙ (λ i. sym (bracket-swap c a) i ⊹ sym (bracket-swap c b) i)

  bracket-num-right : (s : 𝓝.N) (a c : N) → bracket c (𝓠.num s ⋆ a) ≡ 𝓠.num s ⋆ bracket c a
  bracket-num-right s a c =
      bracket-swap c (𝓠.num s ⋆ a) ∙ ap neg (bracket-num-left s a c) ∙ sym (mul-neg 𝓛 (𝓠.num s) (bracket a c))
      ∙ ap (λ y. 𝓠.num s ⋆ y) (sym (bracket-swap c a))

  module _ (f : N → 𝓝.N) (l : Linear f) where
    left-linear : (c : N) → Linear (λ a. f (bracket a c))
    left-linear c = record {
      adds = λ a b. ap f (bracket-add-left a b c) ∙ l.adds (bracket a c) (bracket b c);
      nums = λ s a. ap f (bracket-num-left s a c) ∙ l.nums s (bracket a c);
    }

    right-linear : (c : N) → Linear (λ a. f (bracket c a))
    right-linear c = record {
      adds = λ a b. ap f (bracket-add-right a b c) ∙ l.adds (bracket c a) (bracket c b);
      nums = λ s a. ap f (bracket-num-right s a c) ∙ l.nums s (bracket c a);
    }

  -- the covariance of a functional
  unfoldable pub cov : (N → 𝓝.N) → Mat 𝓝
  cov f r c = f (bracket (gamma 𝓠 r) (gamma 𝓠 c))

  -- ---- a block in front

  module _ (g : Block 𝓠) where
    abbrev φ : N → N
    φ = acts 𝓠 g

    abbrev o : Local 𝓝
    o = operation 𝓠 g

    abbrev turn : ℕ → Bool
    turn r = odd 𝓝 below o && later o r

    pub pulled-linear : (f : N → 𝓝.N) → Linear f → Linear (λ a. f (φ a))
    pulled-linear f l = record {
      adds = λ a b. ap f (acts-add 𝓔 𝓠 g a b) ∙ l.adds (φ a) (φ b);
      nums = λ s a. ap f (acts-num 𝓔 𝓠 g s a) ∙ l.nums s (φ a);
    }

    bracket-acts : (a b : N) → φ (bracket a b) ≡ bracket (φ a) (φ b)
    unfolding bracket
    bracket-acts a b =
        acts-num 𝓔 𝓠 g eta (a ⋆ b ⊹ neg (b ⋆ a))
        ∙ ap (λ y. 𝓠.num eta ⋆ y)
        (acts-add 𝓔 𝓠 g (a ⋆ b) (neg (b ⋆ a))
        ∙ (λ i. acts-mul 𝓔 𝓠 g a b i ⊹ (acts-neg 𝓔 𝓠 g (b ⋆ a) ∙ ap neg (acts-mul 𝓔 𝓠 g b a)) i))

    -- what a linear functional says of U^-1 gamma_r U: the map's sum inside, a sign at later modes
    image : (f : N → 𝓝.N) → Linear f → (r : ℕ) → r < 2 * n
        → f (φ (gamma 𝓠 r))
        ≡ sg 𝓝 (turn r) (cond (inside o r) (dot 𝓝 (o.map (r - o.start)) (λ j. f (gamma 𝓠 (o.start + j))) o.width) (f (gamma 𝓠 r)))
    image f l r h = by (place o r)
      where
        inner : 𝓝.N
        inner = dot 𝓝 (o.map (r - o.start)) (λ j. f (gamma 𝓠 (o.start + j))) o.width

        by : Place o r → f (φ (gamma 𝓠 r)) ≡ sg 𝓝 (turn r) (cond (inside o r) inner (f (gamma 𝓠 r)))
        by (before p e k) =
            ap f (earlier 𝓔 𝓠 g r p)
            ∙ ap (λ b. sg 𝓝 b (f (gamma 𝓠 r))) (sym (and-false (odd 𝓝 below o)))
            ∙ (λ i. sg 𝓝 (odd 𝓝 below o && sym k i) (cond (sym e i) inner (f (gamma 𝓠 r))))
        by (within j w s d e k) =
            ap (λ m. f (φ (gamma 𝓠 m))) (sym s)
            ∙ ap f (g.sends j w)
            ∙ lin-combined f l (g.map j) (λ b. gamma 𝓠 (2 * g.start + b)) (2 * g.modes)
            ∙ ap (λ m. dot 𝓝 (o.map m) (λ b. f (gamma 𝓠 (o.start + b))) o.width) (sym d)
            ∙ ap (λ b. sg 𝓝 b inner) (sym (and-false (odd 𝓝 below o)))
            ∙ (λ i. sg 𝓝 (odd 𝓝 below o && sym k i) (cond (sym e i) inner (f (gamma 𝓠 r))))
        by (after p e k) =
            ap f (later-gamma 𝓔 𝓠 g r p h)
            ∙ l.nums (det 𝓝 (2 * g.modes) g.map) (gamma 𝓠 r)
            ∙ ap (λ s. 𝓝.mul s (f (gamma 𝓠 r))) (det-sign 𝓔 𝓠 g)
            ∙ sg-mul 𝓔.laws.ring (odd 𝓝 below o) 𝓝.one (f (gamma 𝓠 r))
            ∙ ap (sg 𝓝 (odd 𝓝 below o)) (𝓔.laws.ring.one-mul (f (gamma 𝓠 r)))
            ∙ ap (λ b. sg 𝓝 b (f (gamma 𝓠 r))) (sym (and-true (odd 𝓝 below o)))
            ∙ (λ i. sg 𝓝 (odd 𝓝 below o && sym k i) (cond (sym e i) inner (f (gamma 𝓠 r))))

    -- THE STEP
    pub block-step : (f : N → 𝓝.N) → Linear f → (r c : ℕ) → r < 2 * n → c < 2 * n
        → cov (λ a. f (φ a)) r c ≡ plain 𝓝 (odd 𝓝 below) o (cov f) r c
    unfolding cov
    block-step f l r c h k =
        ap f (bracket-acts (gamma 𝓠 r) (gamma 𝓠 c))
        ∙ image (λ a. f (bracket (φ (gamma 𝓠 r)) a)) (right-linear f l (φ (gamma 𝓠 r))) c k
        ∙ ap (sg 𝓝 (turn c))
        ((λ i. cond (inside o c) (dot 𝓝 (o.map (c - o.start)) (λ j. row (o.start + j) i) o.width) (row c i))
        ∙ by (inside o c))
        ∙ sg-swap 𝓔.laws.ring (turn c) (turn r) (cols 𝓝 o (rows 𝓝 o (cov f)) r c)
      where
        row : (m : ℕ) → f (bracket (φ (gamma 𝓠 r)) (gamma 𝓠 m)) ≡ sg 𝓝 (turn r) (rows 𝓝 o (cov f) r m)
        row m = image (λ a. f (bracket a (gamma 𝓠 m))) (left-linear f l (gamma 𝓠 m)) r h

        by : (b : Bool)
            → cond b (dot 𝓝 (o.map (c - o.start)) (λ j. sg 𝓝 (turn r) (rows 𝓝 o (cov f) r (o.start + j))) o.width) (sg 𝓝 (turn r) (rows 𝓝 o (cov f) r c))
            ≡ sg 𝓝 (turn r) (cond b (dot 𝓝 (o.map (c - o.start)) (λ j. rows 𝓝 o (cov f) r (o.start + j)) o.width) (rows 𝓝 o (cov f) r c))
        by true = dot-sg 𝓝 𝓔.laws.ring (turn r) (o.map (c - o.start)) (λ j. rows 𝓝 o (cov f) r (o.start + j)) o.width
        by false = refl
