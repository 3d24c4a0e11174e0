-- The operators with given matrices, on one qubit and on two: sums, products, one, X, Y and Z, and each entry read from the operator. Assumes nothing.
use mathlib.Core.Path.{◌≡◌, sym, ap, ◌∙◌}
use mathlib.Core.Logic.{◌≢◌}
use mathlib.Core.Bool.{Bool, false}
use Prim.Native.Nat.{ℕ, ◌+◌, ◌*◌, ◌/◌, ◌%◌, ◌<◌}
use native.Mathlib.Omega.{arith}
use Rattle.rings.specs.Rings.{Ops, IsRing}
use Rattle.formulas.specs.Numbers.{Exact}
use Rattle.formulas.specs.Engine.{Mat, dot}
use Rattle.angles.specs.Qubits.{Axis, x, y, z, Operators}
use Rattle.matchgates.specs.Matrices.{product, identity, kron, mat_x, mat_y, mat_z}
use Rattle.matchgates.specs.Gates.{ket_bra, spread, on_one, placed}
use Rattle.rings.proofs.Rings.{zero-add, neg-mul}
use Rattle.angles.proofs.Passing.{Pass, pass-back}
use Rattle.angles.proofs.Majoranas.{num-zero, num-neg}
use Rattle.matchgates.proofs.Units.{pass-num, pass-unit, pick, vac-ket, resolved, sum-x, sum-y, sum-z, pass-spread, spread-mul, spread-add, spread-scale}
use Rattle.matchgates.proofs.Units.{spread-neg, spread-nought, spread-same, beside, along}

module _ {𝓝 : Ops} {below : 𝓝.N → Bool} (𝓔 : Exact 𝓝 below) {n : ℕ} {𝓐 : Ops} (𝓠 : Operators 𝓝 𝓔.i n 𝓐) where
  open 𝓐 use {N, zero as 𝟘, one as 𝟙, add as ◌⊹◌, mul as ◌⋆◌, neg}

  infixl 65 ◌⊹◌
  infixl 70 ◌⋆◌
  abbrev 𝓛 : IsRing 𝓐
  𝓛 = 𝓠.ring

  abbrev num : 𝓝.N → N
  num = 𝓠.num

  abbrev Id : Mat 𝓝
  Id = identity 𝓝

  -- ---- one qubit

  module _ (k : ℕ) (h : k < n) where
    abbrev R : Mat 𝓝 → N
    R = on_one 𝓔 𝓠 k

    abbrev S : (ℕ → ℕ → N) → N
    S = spread 𝓔 𝓠 k

    abbrev E : ℕ → ℕ → N
    E = ket_bra 𝓔 𝓠 k

    abbrev nums : Mat 𝓝 → ℕ → ℕ → N
    nums u r c = num (u r c)

    pub one-same : (u t : Mat 𝓝) → ((r c : ℕ) → r < 2 → c < 2 → u r c ≡ t r c) → R u ≡ R t
    one-same u t e = spread-same 𝓔 𝓠 k h (nums u) (nums t) (λ r c hr hc. ap num (e r c hr hc))

    pub one-add : (u t : Mat 𝓝) → R (λ r c. 𝓝.add (u r c) (t r c)) ≡ R u ⊹ R t
    one-add u t = (λ i. S (λ r c. 𝓠.num-add (u r c) (t r c) i)) ∙ spread-add 𝓔 𝓠 k h (nums u) (nums t)

    -- a number in front
    one-front : (s : 𝓝.N) (u : Mat 𝓝) → R (λ r c. 𝓝.mul s (u r c)) ≡ num s ⋆ R u
    one-front s u = (λ i. S (λ r c. 𝓠.num-mul s (u r c) i)) ∙ spread-scale 𝓔 𝓠 k h (num s) (nums u)

    pub one-scale : (s : 𝓝.N) (u : Mat 𝓝) → R (λ r c. 𝓝.mul (u r c) s) ≡ num s ⋆ R u
    one-scale s u = (λ i. S (λ r c. num (𝓔.laws.comm (u r c) s i))) ∙ one-front s u

    pub one-neg : (u : Mat 𝓝) → R (λ r c. 𝓝.neg (u r c)) ≡ neg (R u)
    one-neg u = (λ i. S (λ r c. num-neg 𝓔 𝓠 (u r c) i)) ∙ spread-neg 𝓔 𝓠 k h (nums u)

    pub one-nought : R (λ r c. 𝓝.zero) ≡ 𝟘
    one-nought = (λ i. S (λ r c. num-zero 𝓔 𝓠 i)) ∙ spread-nought 𝓔 𝓠 k h

    num-dot : (p q : ℕ → 𝓝.N) → num (dot 𝓝 p q 2) ≡ 𝟘 ⊹ num (p 0) ⋆ num (q 0) ⊹ num (p 1) ⋆ num (q 1)
    unfolding dot
    num-dot p q =
        𝓠.num-add (𝓝.add 𝓝.zero (𝓝.mul (p 0) (q 0))) (𝓝.mul (p 1) (q 1))
        ∙ (λ i. 𝓠.num-add 𝓝.zero (𝓝.mul (p 0) (q 0)) i ⊹ 𝓠.num-mul (p 1) (q 1) i)
        ∙ (λ i. num-zero 𝓔 𝓠 i ⊹ 𝓠.num-mul (p 0) (q 0) i ⊹ num (p 1) ⋆ num (q 1))

    pub one-times : (u t : Mat 𝓝) → R (product 𝓝 2 u t) ≡ R u ⋆ R t
    one-times u t =
        (λ i. S (λ r c. num-dot (u r) (λ l. t l c) i))
        ∙ sym (spread-mul 𝓔 𝓠 k h (nums u) (nums t) (λ p r c. 𝓠.central (u r c) (𝓠.pauli p k)) (λ p r c. 𝓠.central (t r c) (𝓠.pauli p k)))

    -- one and nought in front
    ones : (a b : N) → num 𝓝.one ⋆ a ⊹ num 𝓝.one ⋆ b ≡ a ⊹ b
    ones a b = (λ i. 𝓠.num-one i ⋆ a ⊹ 𝓠.num-one i ⋆ b) ∙ (λ i. 𝓛.one-mul a i ⊹ 𝓛.one-mul b i)

    pub one-whole : R Id ≡ 𝟙
    one-whole = along 𝓔 𝓠 k h (nums Id) (num-zero 𝓔 𝓠) (num-zero 𝓔 𝓠) ∙ ones (E 0 0) (E 1 1) ∙ resolved 𝓔 𝓠 k h

    pub one-x : R (mat_x 𝓝) ≡ 𝓠.pauli x k
    one-x = beside 𝓔 𝓠 k h (nums (mat_x 𝓝)) (num-zero 𝓔 𝓠) (num-zero 𝓔 𝓠) ∙ ones (E 0 1) (E 1 0) ∙ sum-x 𝓔 𝓠 k h

    pub one-y : R (mat_y 𝓝 𝓔.i) ≡ 𝓠.pauli y k
    one-y =
        beside 𝓔 𝓠 k h (nums (mat_y 𝓝 𝓔.i)) (num-zero 𝓔 𝓠) (num-zero 𝓔 𝓠)
        ∙ ap (λ a. a ⋆ E 0 1 ⊹ num 𝓔.i ⋆ E 1 0) (num-neg 𝓔 𝓠 𝓔.i) ∙ sum-y 𝓔 𝓠 k h

    pub one-z : R (mat_z 𝓝) ≡ 𝓠.pauli z k
    one-z =
        along 𝓔 𝓠 k h (nums (mat_z 𝓝)) (num-zero 𝓔 𝓠) (num-zero 𝓔 𝓠)
        ∙ (λ i. 𝓠.num-one i ⋆ E 0 0 ⊹ num-neg 𝓔 𝓠 𝓝.one i ⋆ E 1 1)
        ∙ (λ i. 𝓛.one-mul (E 0 0) i ⊹ neg-mul 𝓛 (num 𝓝.one) (E 1 1) i)
        ∙ (λ i. E 0 0 ⊹ neg (𝓠.num-one i ⋆ E 1 1))
        ∙ (λ i. E 0 0 ⊹ neg (𝓛.one-mul (E 1 1) i))
        ∙ sum-z 𝓔 𝓠 k h

    pub one-commutes : (a : N) → ((p : Axis) → Pass 𝓐 false a (𝓠.pauli p k)) → (u : Mat 𝓝) → Pass 𝓐 false a (R u)
    one-commutes a e u = pass-spread 𝓔 𝓠 k h a e (nums u) (λ r c. pass-num 𝓔 𝓠 a (u r c))

    -- an entry of the matrix, from the operator
    one-entry : (u : Mat 𝓝) (r c : ℕ) → r < 2 → c < 2 → 𝓠.vac (E 0 r ⋆ (R u ⋆ E c 0)) ≡ u r c
    one-entry u r c hr hc =
        ap 𝓠.vac (pick 𝓔 𝓠 k h (nums u) (λ p s t. 𝓠.central (u s t) (𝓠.pauli p k)) r c hr hc)
        ∙ vac-ket 𝓔 𝓠 k h (num (u r c))
        ∙ ap 𝓠.vac (sym (𝓛.mul-one (num (u r c))))
        ∙ 𝓠.vac-num (u r c) 𝟙
        ∙ ap (λ s. 𝓝.mul (u r c) s) 𝓠.vac-one
        ∙ 𝓔.laws.ring.mul-one (u r c)

    pub one-injective : (u t : Mat 𝓝) → R u ≡ R t → (r c : ℕ) → r < 2 → c < 2 → u r c ≡ t r c
    one-injective u t e r c hr hc = sym (one-entry u r c hr hc) ∙ ap (λ a. 𝓠.vac (E 0 r ⋆ (a ⋆ E c 0))) e ∙ one-entry t r c hr hc

  -- ---- two qubits

  module _ (p q : ℕ) (hp : p < n) (hq : q < n) (other : p ≢ q) where
    abbrev R2 : Mat 𝓝 → N
    R2 = placed 𝓔 𝓠 p q

    abbrev R' : Mat 𝓝 → N
    R' = on_one 𝓔 𝓠 q

    abbrev S2 : (ℕ → ℕ → N) → N
    S2 = spread 𝓔 𝓠 p

    abbrev Ep : ℕ → ℕ → N
    Ep = ket_bra 𝓔 𝓠 p

    abbrev Eq : ℕ → ℕ → N
    Eq = ket_bra 𝓔 𝓠 q

    abbrev corner : Mat 𝓝 → ℕ → ℕ → Mat 𝓝
    corner u r c = λ s t. u (2 * r + s) (2 * c + t)

    abbrev corners : Mat 𝓝 → ℕ → ℕ → N
    corners u r c = R' (corner u r c)

    other-pass : (a : Axis) (u : Mat 𝓝) → Pass 𝓐 false (R' u) (𝓠.pauli a p)
    other-pass a u = pass-back 𝓛 false (𝓠.pauli a p) (R' u) (one-commutes q hq (𝓠.pauli a p) (λ b. 𝓠.apart a b p q hp hq other) u)

    -- units of the two qubits commute
    pub units-pass : (r c s t : ℕ) → Pass 𝓐 false (Ep r c) (Eq s t)
    units-pass r c s t =
        pass-unit 𝓔 𝓠 q hq (Ep r c)
        (λ a. sym (pass-unit 𝓔 𝓠 p hp (𝓠.pauli a q) (λ b. 𝓠.apart a b q p hq hp (λ e. other (sym e))) r c)) s t

    pub placed-same : (u t : Mat 𝓝) → ((r c : ℕ) → r < 4 → c < 4 → u r c ≡ t r c) → R2 u ≡ R2 t
    placed-same u t e =
        spread-same 𝓔 𝓠 p hp (corners u) (corners t) (λ r c hr hc. one-same q hq (corner u r c) (corner t r c)
        (λ s d hs hd. e (2 * r + s) (2 * c + d) (omega arith) (omega arith)))

    pub placed-add : (u t : Mat 𝓝) → R2 (λ r c. 𝓝.add (u r c) (t r c)) ≡ R2 u ⊹ R2 t
    placed-add u t = (λ i. S2 (λ r c. one-add q hq (corner u r c) (corner t r c) i)) ∙ spread-add 𝓔 𝓠 p hp (corners u) (corners t)

    pub placed-scale : (s : 𝓝.N) (u : Mat 𝓝) → R2 (λ r c. 𝓝.mul (u r c) s) ≡ num s ⋆ R2 u
    placed-scale s u = (λ i. S2 (λ r c. one-scale q hq s (corner u r c) i)) ∙ spread-scale 𝓔 𝓠 p hp (num s) (corners u)

    pub placed-neg : (u : Mat 𝓝) → R2 (λ r c. 𝓝.neg (u r c)) ≡ neg (R2 u)
    placed-neg u = (λ i. S2 (λ r c. one-neg q hq (corner u r c) i)) ∙ spread-neg 𝓔 𝓠 p hp (corners u)

    pub placed-nought : R2 (λ r c. 𝓝.zero) ≡ 𝟘
    placed-nought = (λ i. S2 (λ r c. one-nought q hq i)) ∙ spread-nought 𝓔 𝓠 p hp

    -- a sum of four as two sums of two
    dot-four : (v w : ℕ → 𝓝.N) → dot 𝓝 v w 4 ≡ 𝓝.add (dot 𝓝 v w 2) (dot 𝓝 (λ l. v (2 + l)) (λ l. w (2 + l)) 2)
    unfolding dot
    dot-four v w =
        𝓔.laws.ring.add-assoc (𝓝.add (𝓝.add 𝓝.zero (𝓝.mul (v 0) (w 0))) (𝓝.mul (v 1) (w 1))) (𝓝.mul (v 2) (w 2)) (𝓝.mul (v 3) (w 3))
        ∙ ap (λ a. 𝓝.add (𝓝.add (𝓝.add 𝓝.zero (𝓝.mul (v 0) (w 0))) (𝓝.mul (v 1) (w 1))) (𝓝.add a (𝓝.mul (v 3) (w 3))))
        (sym (zero-add 𝓔.laws.ring (𝓝.mul (v 2) (w 2))))

    -- a corner of a product
    corner-mul : (u t : Mat 𝓝) (r c : ℕ) → corners (product 𝓝 4 u t) r c ≡ 𝟘 ⊹ corners u r 0 ⋆ corners t 0 c ⊹ corners u r 1 ⋆ corners t 1 c
    unfolding dot
    corner-mul u t r c =
        (λ i. R' (λ s d. dot-four (u (2 * r + s)) (λ l. t l (2 * c + d)) i))
        ∙ one-add q hq (product 𝓝 2 (corner u r 0) (corner t 0 c)) (product 𝓝 2 (corner u r 1) (corner t 1 c))
        ∙ (λ i. one-times q hq (corner u r 0) (corner t 0 c) i ⊹ one-times q hq (corner u r 1) (corner t 1 c) i)
        ∙ ap (λ a. a ⊹ corners u r 1 ⋆ corners t 1 c) (sym (zero-add 𝓛 (corners u r 0 ⋆ corners t 0 c)))

    pub placed-times : (u t : Mat 𝓝) → R2 (product 𝓝 4 u t) ≡ R2 u ⋆ R2 t
    placed-times u t =
        (λ i. S2 (λ r c. corner-mul u t r c i))
        ∙ sym (spread-mul 𝓔 𝓠 p hp (corners u) (corners t) (λ a r c. other-pass a (corner u r c)) (λ a r c. other-pass a (corner t r c)))

    pub placed-whole : R2 Id ≡ 𝟙
    placed-whole =
        along 𝓔 𝓠 p hp (corners Id) (one-nought q hq) (one-nought q hq)
        ∙ (λ i. one-whole q hq i ⋆ Ep 0 0 ⊹ one-whole q hq i ⋆ Ep 1 1)
        ∙ (λ i. 𝓛.one-mul (Ep 0 0) i ⊹ 𝓛.one-mul (Ep 1 1) i)
        ∙ resolved 𝓔 𝓠 p hp

    -- a on the first, b on the second
    pub placed-kron : (a b : Mat 𝓝) → R2 (kron 𝓝 a b) ≡ on_one 𝓔 𝓠 p a ⋆ R' b
    placed-kron a b =
        (λ i. one-front q hq (a 0 0) b i ⋆ Ep 0 0 ⊹ one-front q hq (a 0 1) b i ⋆ Ep 0 1
        ⊹ (one-front q hq (a 1 0) b i ⋆ Ep 1 0 ⊹ one-front q hq (a 1 1) b i ⋆ Ep 1 1))
        ∙ (λ i. S2 (λ r c. 𝓠.central (a r c) (R' b) i))
        ∙ spread-scale 𝓔 𝓠 p hp (R' b) (λ r c. num (a r c))
        ∙ one-commutes p hp (R' b) (λ c. other-pass c b) a

    pub placed-commutes : (a : N) → ((b : Axis) → Pass 𝓐 false a (𝓠.pauli b p)) → ((b : Axis) → Pass 𝓐 false a (𝓠.pauli b q))
        → (u : Mat 𝓝) → Pass 𝓐 false a (R2 u)
    placed-commutes a e d u = pass-spread 𝓔 𝓠 p hp a e (corners u) (λ r c. one-commutes q hq a d (corner u r c))

    -- an entry of the matrix, from the operator
    abbrev taken : ℕ → ℕ → ℕ → ℕ → N → 𝓝.N
    taken r c s d a = 𝓠.vac (Eq 0 s ⋆ (Ep 0 r ⋆ (a ⋆ Ep c 0) ⋆ Eq d 0))

    entry : (u : Mat 𝓝) (r c s d : ℕ) → r < 2 → c < 2 → s < 2 → d < 2 → taken r c s d (R2 u) ≡ u (2 * r + s) (2 * c + d)
    entry u r c s d hr hc hs hd =
        ap (λ a. 𝓠.vac (Eq 0 s ⋆ (a ⋆ Eq d 0))) (pick 𝓔 𝓠 p hp (corners u) (λ b a e. other-pass b (corner u a e)) r c hr hc)
        ∙ ap 𝓠.vac (ap (λ a. Eq 0 s ⋆ a) (𝓛.mul-assoc (corners u r c) (Ep 0 0) (Eq d 0) ∙ ap (λ a. corners u r c ⋆ a) (units-pass 0 0 d 0)
        ∙ sym (𝓛.mul-assoc (corners u r c) (Eq d 0) (Ep 0 0))) ∙ sym (𝓛.mul-assoc (Eq 0 s) (corners u r c ⋆ Eq d 0) (Ep 0 0)))
        ∙ vac-ket 𝓔 𝓠 p hp (Eq 0 s ⋆ (corners u r c ⋆ Eq d 0))
        ∙ one-entry q hq (corner u r c) s d hs hd

    pub placed-injective : (u t : Mat 𝓝) → R2 u ≡ R2 t → (r c : ℕ) → r < 4 → c < 4 → u r c ≡ t r c
    placed-injective u t e r c hr hc =
        (λ i. u (sym (split r) i) (sym (split c) i))
        ∙ sym (entry u (r / 2) (c / 2) (r % 2) (c % 2) (omega arith) (omega arith) (omega arith) (omega arith))
        ∙ ap (taken (r / 2) (c / 2) (r % 2) (c % 2)) e
        ∙ entry t (r / 2) (c / 2) (r % 2) (c % 2) (omega arith) (omega arith) (omega arith) (omega arith)
        ∙ (λ i. t (split r i) (split c i))
      where
        split : (r : ℕ) → 2 * (r / 2) + r % 2 ≡ r
        split r = omega arith
