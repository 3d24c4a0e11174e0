-- What a block does to Majorana operators: to earlier ones nothing, to its own what its map says, to later ones the sign that is its map's determinant.
-- Assumes nothing.
use mathlib.Core.Path.{◌≡◌, sym, ap, subst, ◌∙◌}
use mathlib.Core.Logic.{◌⊎◌, inl, inr, ◌≢◌}
use mathlib.Core.Bool.{Bool, true, false, xor}
use Prim.Native.Nat.{ℕ, zero, suc, ◌+◌, ◌*◌, ◌/◌, ◌%◌, ◌≤◌, ◌<◌}
use native.Mathlib.Omega.{arith}
use lib.Dec.{eqb, lit<}
use Rattle.rings.specs.Rings.{Ops, IsRing, sg}
use Rattle.formulas.specs.Numbers.{Exact}
use Rattle.formulas.specs.Determinants.{det, odd}
use Rattle.angles.specs.Qubits.{z, Operators, zs, which, gamma}
use Rattle.angles.specs.Angles.{combined, Block, operation, acts}
use Rattle.rings.proofs.Rings.{neg-mul, mul-neg}
use Rattle.angles.proofs.Passing.{Pass, pass-one, pass-back, mul-pass, exchanged}
use Rattle.angles.proofs.Majoranas.{Order, less, same, more, order, gamma-square, gamma-anti, z-is, zs-square}
use Rattle.angles.proofs.Clifford.{product2, product4}

module _ {𝓝 : Ops} {below : 𝓝.N → Bool} (𝓔 : Exact 𝓝 below) {n : ℕ} {𝓐 : Ops} (𝓠 : Operators 𝓝 𝓔.i n 𝓐) (g : Block 𝓠) where
  open 𝓐 use {N, one as 𝟙, add as ◌⊹◌, mul as ◌⋆◌, neg}

  infixl 65 ◌⊹◌
  infixl 70 ◌⋆◌
  abbrev 𝓛 : IsRing 𝓐
  𝓛 = 𝓠.ring

  abbrev φ : N → N
  φ = acts 𝓠 g

  -- ---- it respects sums and products

  pub acts-add : (a b : N) → φ (a ⊹ b) ≡ φ a ⊹ φ b
  acts-add a b = ap (λ c. g.v ⋆ c) (𝓛.right a b g.u) ∙ 𝓛.left g.v (a ⋆ g.u) (b ⋆ g.u)

  pub acts-mul : (a b : N) → φ (a ⋆ b) ≡ φ a ⋆ φ b
  acts-mul a b =
      sym (𝓛.mul-assoc g.v (a ⋆ g.u) (g.v ⋆ (b ⋆ g.u))
      ∙ ap (λ c. g.v ⋆ c)
      (𝓛.mul-assoc a g.u (g.v ⋆ (b ⋆ g.u))
      ∙ ap (λ c. a ⋆ c) (sym (𝓛.mul-assoc g.u g.v (b ⋆ g.u)) ∙ ap (λ c. c ⋆ (b ⋆ g.u)) g.uv ∙ 𝓛.one-mul (b ⋆ g.u))
      ∙ sym (𝓛.mul-assoc a b g.u)))

  -- what commutes with U stays
  acts-fixed : (a : N) → Pass 𝓐 false a g.u → φ a ≡ a
  acts-fixed a e = ap (λ c. g.v ⋆ c) e ∙ sym (𝓛.mul-assoc g.v g.u a) ∙ ap (λ c. c ⋆ a) g.vu ∙ 𝓛.one-mul a

  pub acts-one : φ 𝟙 ≡ 𝟙
  acts-one = acts-fixed 𝟙 (pass-back 𝓛 false g.u 𝟙 (pass-one 𝓛 g.u))

  acts-number : (s : 𝓝.N) → φ (𝓠.num s) ≡ 𝓠.num s
  acts-number s = acts-fixed (𝓠.num s) (𝓠.central s g.u)

  pub acts-num : (s : 𝓝.N) (a : N) → φ (𝓠.num s ⋆ a) ≡ 𝓠.num s ⋆ φ a
  acts-num s a = acts-mul (𝓠.num s) a ∙ ap (λ c. c ⋆ φ a) (acts-number s)

  pub acts-neg : (a : N) → φ (neg a) ≡ neg (φ a)
  acts-neg a = ap (λ c. g.v ⋆ c) (neg-mul 𝓛 a g.u) ∙ mul-neg 𝓛 g.v (a ⋆ g.u)

  -- operators that anticommute still do
  acts-pass : (a b : N) → Pass 𝓐 true a b → Pass 𝓐 true (φ a) (φ b)
  acts-pass a b e = sym (acts-mul a b) ∙ ap φ e ∙ acts-neg (b ⋆ a) ∙ ap neg (acts-mul b a)

  -- ---- earlier modes

  zs-fixed : (k : ℕ) → k ≤ g.start → Pass 𝓐 false (zs 𝓠 k) g.u
  unfolding zs xor
  zs-fixed zero h = pass-back 𝓛 false g.u 𝟙 (pass-one 𝓛 g.u)
  zs-fixed (suc k) h =
      mul-pass 𝓛 false false (zs 𝓠 k) (𝓠.pauli z k) g.u (zs-fixed k (omega arith)) (g.own z k (omega (arith, g.fits)) (inl h))

  pub earlier : (r : ℕ) → r < 2 * g.start → φ (gamma 𝓠 r) ≡ gamma 𝓠 r
  unfolding xor
  earlier r h =
      acts-fixed (gamma 𝓠 r) (mul-pass 𝓛 false false (zs 𝓠 (r / 2)) (𝓠.pauli (which 𝓠 (eqb (r % 2) 1)) (r / 2)) g.u
      (zs-fixed (r / 2) (omega arith)) (g.own (which 𝓠 (eqb (r % 2) 1)) (r / 2) (omega (arith, g.fits)) (inl (omega arith))))

  -- ---- the parity of the block's modes

  abbrev own-gamma : ℕ → N
  own-gamma b = gamma 𝓠 (2 * g.start + b)

  own-anti : (w : ℕ) → w ≤ 2 * g.modes → (a b : ℕ) → a < w → b < w → a ≢ b → Pass 𝓐 true (own-gamma a) (own-gamma b)
  own-anti w h a b l m d = gamma-anti 𝓔 𝓠 (2 * g.start + a) (2 * g.start + b) (omega (arith, g.fits)) (omega (arith, g.fits)) (λ e. d (omega (arith, e)))

  own-square : (w : ℕ) → w ≤ 2 * g.modes → (a : ℕ) → a < w → own-gamma a ⋆ own-gamma a ≡ 𝟙
  own-square w h a l = gamma-square 𝓔 𝓠 (2 * g.start + a) (omega (arith, g.fits))

  abbrev chi : 𝓝.N
  chi = det 𝓝 (2 * g.modes) g.map

  abbrev sums : ℕ → ℕ → N
  sums w a = combined 𝓠 (g.map a) own-gamma w

  sums-are : (w : ℕ) → w ≡ 2 * g.modes → (a : ℕ) → a < w → φ (own-gamma a) ≡ sums w a
  sums-are w e a l = g.sends a (omega arith) ∙ ap (λ k. sums k a) (sym e)

  sums-anti : (w : ℕ) → w ≡ 2 * g.modes → (a b : ℕ) → a < w → b < w → a ≢ b → Pass 𝓐 true (sums w a) (sums w b)
  sums-anti w e a b l m d =
      (λ i. sym (sums-are w e a l) i ⋆ sym (sums-are w e b m) i)
      ∙ acts-pass (own-gamma a) (own-gamma b) (own-anti w (omega arith) a b l m d)
      ∙ (λ i. neg (sums-are w e b m i ⋆ sums-are w e a l i))

  sums-square : (w : ℕ) → w ≡ 2 * g.modes → (a : ℕ) → a < w → sums w a ⋆ sums w a ≡ 𝟙
  sums-square w e a l =
      (λ i. sym (sums-are w e a l) i ⋆ sym (sums-are w e a l) i)
      ∙ sym (acts-mul (own-gamma a) (own-gamma a))
      ∙ ap φ (own-square w (omega arith) a l)
      ∙ acts-one

  -- a number moves to the front
  front : (s : 𝓝.N) (a b : N) → a ⋆ (𝓠.num s ⋆ b) ≡ 𝓠.num s ⋆ (a ⋆ b)
  front s a b = sym (𝓛.mul-assoc a (𝓠.num s) b) ∙ ap (λ c. c ⋆ b) (sym (𝓠.central s a)) ∙ 𝓛.mul-assoc (𝓠.num s) a b

  -- -i
  abbrev mi : 𝓝.N
  mi = 𝓝.neg 𝓔.i

  -- a product of own Majorana operators that turns by c, after Z on the modes before
  turned-by : (c : 𝓝.N) (p : N) → φ p ≡ 𝓠.num c ⋆ p → φ (zs 𝓠 g.start ⋆ p) ≡ 𝓠.num c ⋆ (zs 𝓠 g.start ⋆ p)
  turned-by c p e =
      acts-mul (zs 𝓠 g.start) p
      ∙ (λ i. acts-fixed (zs 𝓠 g.start) (zs-fixed g.start (omega arith)) i ⋆ e i)
      ∙ front c (zs 𝓠 g.start) p

  -- the same with a number in front
  scaled-by : (c s : 𝓝.N) (p : N) → φ p ≡ 𝓠.num c ⋆ p → φ (𝓠.num s ⋆ p) ≡ 𝓠.num c ⋆ (𝓠.num s ⋆ p)
  scaled-by c s p e = acts-num s p ∙ ap (λ q. 𝓠.num s ⋆ q) e ∙ front c (𝓠.num s) p

  first-z : g.start < n → 𝓠.num mi ⋆ (own-gamma 0 ⋆ own-gamma 1) ≡ 𝓠.pauli z g.start
  first-z h = ap (λ m. 𝓠.num mi ⋆ (gamma 𝓠 m ⋆ own-gamma 1)) (omega arith) ∙ z-is 𝓔 𝓠 g.start h

  second-z : g.start + 1 < n → 𝓠.num mi ⋆ (own-gamma 2 ⋆ own-gamma 3) ≡ 𝓠.pauli z (g.start + 1)
  second-z h =
      (λ i. 𝓠.num mi ⋆ (gamma 𝓠 (a i) ⋆ gamma 𝓠 (b i))) ∙ z-is 𝓔 𝓠 (g.start + 1) h
    where
      a : 2 * g.start + 2 ≡ 2 * (g.start + 1)
      a = omega arith

      b : 2 * g.start + 3 ≡ 2 * (g.start + 1) + 1
      b = omega arith

  -- one mode
  parity-one : g.modes ≡ 1 → φ (zs 𝓠 (g.start + g.modes)) ≡ 𝓠.num chi ⋆ zs 𝓠 (g.start + g.modes)
  unfolding zs
  parity-one e =
      subst (λ p. φ p ≡ 𝓠.num chi ⋆ p) (sym is) (turned-by chi (𝓠.num mi ⋆ (own-gamma 0 ⋆ own-gamma 1)) (scaled-by chi mi (own-gamma 0 ⋆ own-gamma 1) turns))
    where
      width : 2 ≡ 2 * g.modes
      width = omega arith

      next : g.start + g.modes ≡ suc g.start
      next = omega arith

      is : zs 𝓠 (g.start + g.modes) ≡ zs 𝓠 g.start ⋆ (𝓠.num mi ⋆ (own-gamma 0 ⋆ own-gamma 1))
      is = ap (zs 𝓠) next ∙ ap (λ p. zs 𝓠 g.start ⋆ p) (sym (first-z (omega (arith, g.fits))))

      turns : φ (own-gamma 0 ⋆ own-gamma 1) ≡ 𝓠.num chi ⋆ (own-gamma 0 ⋆ own-gamma 1)
      turns =
          acts-mul (own-gamma 0) (own-gamma 1)
          ∙ (λ i. sums-are 2 width 0 (lit< tt) i ⋆ sums-are 2 width 1 (lit< tt) i)
          ∙ product2 𝓔 𝓠 own-gamma g.map (own-anti 2 (omega arith)) (own-square 2 (omega arith)) (sums-anti 2 width 0 1 (lit< tt) (lit< tt) (omega arith))
          ∙ ap (λ w. 𝓠.num (det 𝓝 w g.map) ⋆ (own-gamma 0 ⋆ own-gamma 1)) width

  -- two modes
  parity-two : g.modes ≡ 2 → φ (zs 𝓠 (g.start + g.modes)) ≡ 𝓠.num chi ⋆ zs 𝓠 (g.start + g.modes)
  unfolding zs
  parity-two e =
      subst (λ p. φ p ≡ 𝓠.num chi ⋆ p) (sym is) (turned-by chi (𝓠.num mi ⋆ (𝓠.num mi ⋆ all)) (scaled-by chi mi (𝓠.num mi ⋆ all) (scaled-by chi mi all turns)))
    where
      width : 4 ≡ 2 * g.modes
      width = omega arith

      next : g.start + g.modes ≡ suc (g.start + 1)
      next = omega arith

      after : g.start + 1 ≡ suc g.start
      after = omega arith

      all : N
      all = own-gamma 0 ⋆ own-gamma 1 ⋆ (own-gamma 2 ⋆ own-gamma 3)

      is : zs 𝓠 (g.start + g.modes) ≡ zs 𝓠 g.start ⋆ (𝓠.num mi ⋆ (𝓠.num mi ⋆ all))
      is =
          ap (zs 𝓠) next
          ∙ ap (λ k. zs 𝓠 k ⋆ 𝓠.pauli z (g.start + 1)) after
          ∙ 𝓛.mul-assoc (zs 𝓠 g.start) (𝓠.pauli z g.start) (𝓠.pauli z (g.start + 1))
          ∙ ap (λ p. zs 𝓠 g.start ⋆ p)
          ((λ i. sym (first-z (omega (arith, g.fits))) i ⋆ sym (second-z (omega (arith, g.fits))) i)
          ∙ 𝓛.mul-assoc (𝓠.num mi) (own-gamma 0 ⋆ own-gamma 1) (𝓠.num mi ⋆ (own-gamma 2 ⋆ own-gamma 3))
          ∙ ap (λ p. 𝓠.num mi ⋆ p) (front mi (own-gamma 0 ⋆ own-gamma 1) (own-gamma 2 ⋆ own-gamma 3)))

      turns : φ all ≡ 𝓠.num chi ⋆ all
      turns =
          acts-mul (own-gamma 0 ⋆ own-gamma 1) (own-gamma 2 ⋆ own-gamma 3)
          ∙ (λ i. acts-mul (own-gamma 0) (own-gamma 1) i ⋆ acts-mul (own-gamma 2) (own-gamma 3) i)
          ∙ (λ i. sums-are 4 width 0 (lit< tt) i ⋆ sums-are 4 width 1 (lit< tt) i ⋆ (sums-are 4 width 2 (lit< tt) i ⋆ sums-are 4 width 3 (lit< tt) i))
          ∙ product4 𝓔 𝓠 own-gamma g.map (own-anti 4 (omega arith)) (own-square 4 (omega arith)) (sums-anti 4 width) (sums-square 4 width 0 (lit< tt))
          ∙ ap (λ w. 𝓠.num (det 𝓝 w g.map) ⋆ all) width

  pub parity : φ (zs 𝓠 (g.start + g.modes)) ≡ 𝓠.num chi ⋆ zs 𝓠 (g.start + g.modes)
  parity = by g.few
    where
      by : (g.modes ≡ 1) ⊎ (g.modes ≡ 2) → φ (zs 𝓠 (g.start + g.modes)) ≡ 𝓠.num chi ⋆ zs 𝓠 (g.start + g.modes)
      by (inl e) = parity-one e
      by (inr e) = parity-two e

  -- ---- later modes

  later-zs : (j : ℕ) → g.start + g.modes ≤ j → j ≤ n → φ (zs 𝓠 j) ≡ 𝓠.num chi ⋆ zs 𝓠 j
  unfolding zs
  later-zs zero h l = subst (λ m. φ (zs 𝓠 m) ≡ 𝓠.num chi ⋆ zs 𝓠 m) none parity
    where
      none : g.start + g.modes ≡ 0
      none = omega arith
  later-zs (suc j) h l = by (order (g.start + g.modes) (suc j)) (λ m. later-zs j m (omega arith))
    where
      by : Order (g.start + g.modes) (suc j) → (g.start + g.modes ≤ j → φ (zs 𝓠 j) ≡ 𝓠.num chi ⋆ zs 𝓠 j) → φ (zs 𝓠 (suc j)) ≡ 𝓠.num chi ⋆ zs 𝓠 (suc j)
      by (less m) ih =
          acts-mul (zs 𝓠 j) (𝓠.pauli z j)
          ∙ (λ i. ih (omega arith) i ⋆ acts-fixed (𝓠.pauli z j) (g.own z j l (inr (omega arith))) i)
          ∙ 𝓛.mul-assoc (𝓠.num chi) (zs 𝓠 j) (𝓠.pauli z j)
      by (same m) ih = subst (λ k. φ (zs 𝓠 k) ≡ 𝓠.num chi ⋆ zs 𝓠 k) m parity
      by (more m) ih = absurd (omega arith)

  pub later-gamma : (r : ℕ) → 2 * g.start + 2 * g.modes ≤ r → r < 2 * n → φ (gamma 𝓠 r) ≡ 𝓠.num chi ⋆ gamma 𝓠 r
  later-gamma r h l =
      acts-mul (zs 𝓠 (r / 2)) (𝓠.pauli (which 𝓠 (eqb (r % 2) 1)) (r / 2))
      ∙ (λ i. later-zs (r / 2) (omega arith) (omega arith) i
      ⋆ acts-fixed (𝓠.pauli (which 𝓠 (eqb (r % 2) 1)) (r / 2)) (g.own (which 𝓠 (eqb (r % 2) 1)) (r / 2) (omega arith) (inr (omega arith))) i)
      ∙ 𝓛.mul-assoc (𝓠.num chi) (zs 𝓠 (r / 2)) (𝓠.pauli (which 𝓠 (eqb (r % 2) 1)) (r / 2))

  -- ---- the determinant is 1 or -1

  det-square : 𝓝.mul chi chi ≡ 𝓝.one
  det-square =
      sym (value-num (𝓝.mul chi chi))
      ∙ ap 𝓠.vac
      (𝓠.num-mul chi chi
      ∙ sym (𝓛.mul-one (𝓠.num chi ⋆ 𝓠.num chi))
      ∙ ap (λ p. 𝓠.num chi ⋆ 𝓠.num chi ⋆ p) (sym (zs-square 𝓔 𝓠 top g.fits))
      ∙ sym (exchanged 𝓛 (𝓠.num chi) (zs 𝓠 top) (𝓠.num chi) (zs 𝓠 top) (sym (𝓠.central chi (zs 𝓠 top))))
      ∙ (λ i. sym parity i ⋆ sym parity i)
      ∙ sym (acts-mul (zs 𝓠 top) (zs 𝓠 top))
      ∙ ap φ (zs-square 𝓔 𝓠 top g.fits)
      ∙ acts-one)
      ∙ 𝓠.vac-one
    where
      top : ℕ
      top = g.start + g.modes

      value-num : (s : 𝓝.N) → 𝓠.vac (𝓠.num s) ≡ s
      value-num s =
          ap 𝓠.vac (sym (𝓛.mul-one (𝓠.num s))) ∙ 𝓠.vac-num s 𝟙 ∙ ap (𝓝.mul s) 𝓠.vac-one ∙ 𝓔.laws.ring.mul-one s

  -- and the engine's test tells which
  pub det-sign : chi ≡ sg 𝓝 (odd 𝓝 below (operation 𝓠 g)) 𝓝.one
  det-sign = by (𝓔.roots chi det-square)
    where
      by : (chi ≡ 𝓝.one) ⊎ (chi ≡ 𝓝.neg 𝓝.one) → chi ≡ sg 𝓝 (below chi) 𝓝.one
      by (inl e) = e ∙ ap (λ b. sg 𝓝 b 𝓝.one) (sym (ap below e ∙ 𝓔.not-below))
      by (inr e) = e ∙ ap (λ b. sg 𝓝 b 𝓝.one) (sym (ap below e ∙ 𝓔.is-below))
