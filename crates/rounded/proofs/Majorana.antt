-- The engine's Majorana map is the formula at binary64 (specs/Majorana.antt): of either width the same proof, from what products, traces and squares are.
-- Assumes nothing.
use mathlib.Core.Path.{◌≡◌, refl, ap, ◌∙◌}
use Prim.Native.Nat.{ℕ, zero, suc, ◌*◌, ◌≤◌, ◌<◌}
use native.Mathlib.Nat.{le_refl}
use native.Mathlib.Omega.{arith}
use lib.Count.{count_trailing_zeros}
use lib.Dec.{lit<}
use lib.Ieee.{Float, binary64, add, sub, div, neg, of_bits, sum, round, units, odd, size, climb, span}
use Rattle.laws.specs.Zeros.{+1}
use Rattle.real.specs.Maps.{entry2, entry4}
use Rattle.num.specs.Order.{max_of}
use Rattle.num.specs.Root.{sqrt_of}
use Rattle.gate.specs.Complex.{f0, f2}
use Rattle.gate.specs.Matrix.{mul2_of, dag2_of, kron_of, kron_row_of, mul4_of, dag4_of}
use Rattle.gate.specs.declared.matrix.Mat2.{Mat2}
use Rattle.gate.specs.declared.matrix.Mat4.{Mat4}
use Rattle.named.specs.Table.{gate_x, gate_y}
use Rattle.majorana.specs.Majorana.{f4, largest_root_of, majorana_map1_of, majorana_map2_of, majorana0, majorana1, majorana2, majorana3}
use Rattle.majorana.specs.Majorana.{image2_of, trace_row2_of, trace2_of, coefficient2_of, coefficients2_of, map_row2_of, map_distance2_of}
use Rattle.majorana.specs.Majorana.{less_row2_of, less2_of, rest2_of, plus_row2_of, square2_of, distance2_of}
use Rattle.majorana.specs.Majorana.{image4_of, trace_row4_of, trace4_of, coefficient4_of, coefficients4_of, map_row4_of, map_distance4_of}
use Rattle.majorana.specs.Majorana.{less_row4_of, less4_of, rest4_of, plus_row4_of, square4_of, distance4_of}
use Rattle.rings.specs.Rings.{Ops}
use Rattle.formulas.specs.Engine.{Mat}
use Rattle.matchgates.specs.Matrices.{dot_on, trace}
use Rattle.matchgates.specs.Complex.{complex}
use Rattle.matchgates.specs.Words.{majoranas_of, dag_of, axpy_of as axpy', mul2_of as mul2', mul4_of as mul4', mul_of as mul'}
use Rattle.matchgates.specs.Words.{scale_of, norm_sqr_of, image_of, over_of, entry_of, less_of, rest_of, norms_of, square_of, distance_of, residual_of}
use Rattle.rounded.specs.Floats.{floats, float_tests}
use Rattle.rounded.specs.Matrices.{in_mat2, in_mat4, Same}
use Rattle.rounded.specs.Majorana.{float_roots, RoundedMaps}
use Rattle.laws.proofs.Below.{below-two, below-four}
use Rattle.rounded.proofs.Matrices.{entries2, entries4, rounded-matrices}

abbrev ℂ : Ops
ℂ = complex floats

-- ---- of equal entries

-- sums
dot-same : (t t' : ℂ.N) (p p' q q' : ℕ → ℂ.N) (k : ℕ) → t ≡ t' → ((l : ℕ) → l < k → p l ≡ p' l) → ((l : ℕ) → l < k → q l ≡ q' l)
    → dot_on ℂ t p q k ≡ dot_on ℂ t' p' q' k
dot-same t t' p p' q q' zero e f g = e
dot-same t t' p p' q q' (suc k) e f g =
    λ j. ℂ.add (dot-same t t' p p' q q' k e (λ l h. f l (omega arith)) (λ l h. g l (omega arith)) j) (ℂ.mul (f k (omega arith) j) (g k (omega arith) j))

trace-same : (w : ℕ) (c c' m m' : Mat ℂ) → Same w c c' → Same w m m' → (k : ℕ) → k ≤ w → trace ℂ w c m k ≡ trace ℂ w c' m' k
trace-same w c c' m m' e f zero l = refl
trace-same w c c' m m' e f (suc k) l =
    dot-same (trace ℂ w c m k) (trace ℂ w c' m' k) (c k) (c' k) (λ s. m s k) (λ s. m' s k) w (trace-same w c c' m m' e f k (omega arith))
    (λ s h. e k s l h) (λ s h. f s k h l)

norms-same : (t t' : Float) (f f' : ℕ → ℂ.N) (k : ℕ) → t ≡ t' → ((l : ℕ) → l < k → f l ≡ f' l) → norms_of floats t f k ≡ norms_of floats t' f' k
norms-same t t' f f' zero e g = e
norms-same t t' f f' (suc k) e g =
    λ j. add binary64 (norms-same t t' f f' k e (λ l h. g l (omega arith)) j) (norm_sqr_of floats (g k (omega arith) j))

square-same : (w : ℕ) (m m' : Mat ℂ) → Same w m m' → (k : ℕ) → k ≤ w → square_of floats w m k ≡ square_of floats w m' k
square-same w m m' e zero l = refl
square-same w m m' e (suc k) l =
    norms-same (square_of floats w m k) (square_of floats w m' k) (m k) (m' k) w (square-same w m m' e k (omega arith)) (λ s h. e k s l h)

-- ---- the engine's matrices of one width, and what its operations on them are

record Width (modes : ℕ) : Type 1 where
  M : Type 0
  read : M → Mat ℂ
  -- the Majorana matrices
  op : ℕ → M
  op-is : (a : ℕ) → a < 2 * modes → Same (2 * modes) (read (op a)) (majoranas_of floats modes a)
  mul : M → M → M
  mul-is : (a b : M) → Same (2 * modes) (read (mul a b)) (mul' floats float_tests modes (read a) (read b))
  mul-same : (a a' b b' : Mat ℂ) → Same (2 * modes) a a' → Same (2 * modes) b b'
      → Same (2 * modes) (mul' floats float_tests modes a b) (mul' floats float_tests modes a' b')
  dag : M → M
  dag-is : (a : M) → Same (2 * modes) (read (dag a)) (dag_of floats (read a))
  coefficient : M → M → Float
  coefficient-is : (c m : M) → coefficient c m ≡ over_of floats float_tests modes (trace ℂ (2 * modes) (read c) (read m) (2 * modes)).re
  less : M → M → Float → M
  less-is : (m c : M) (x : Float) → Same (2 * modes) (read (less m c x)) (λ r s. ℂ.add (read m r s) (ℂ.neg (scale_of floats (read c r s) x)))
  distance : M → Float
  distance-is : (m : M) → distance m ≡ over_of floats float_tests modes (square_of floats (2 * modes) (read m) (2 * modes))

module _ (modes : ℕ) (𝓦 : Width modes) (u : 𝓦.M) where
  abbrev w : ℕ
  w = 2 * modes

  abbrev image : ℕ → 𝓦.M
  image a = 𝓦.mul (𝓦.dag u) (𝓦.mul (𝓦.op a) u)

  image-is : (a : ℕ) → a < w → Same w (𝓦.read (image a)) (image_of floats float_tests modes (majoranas_of floats modes a) (𝓦.read u))
  image-is a h r s hr hs =
      let C = majoranas_of floats modes a in
      𝓦.mul-is (𝓦.dag u) (𝓦.mul (𝓦.op a) u) r s hr hs
      ∙ 𝓦.mul-same (𝓦.read (𝓦.dag u)) (dag_of floats (𝓦.read u)) (𝓦.read (𝓦.mul (𝓦.op a) u)) (mul' floats float_tests modes C (𝓦.read u)) (𝓦.dag-is u)
      (λ p q hp hq. 𝓦.mul-is (𝓦.op a) u p q hp hq
      ∙ 𝓦.mul-same (𝓦.read (𝓦.op a)) C (𝓦.read u) (𝓦.read u) (𝓦.op-is a h) (λ p q hp hq. refl) p q hp hq) r s hr hs

  -- the map
  abbrev coefficient : ℕ → ℕ → Float
  coefficient a b = 𝓦.coefficient (𝓦.op b) (image a)

  entry-is : (a b : ℕ) → a < w → b < w → coefficient a b ≡ entry_of floats float_tests modes (𝓦.read u) a b
  entry-is a b ha hb =
      let W = image_of floats float_tests modes (majoranas_of floats modes a) (𝓦.read u) in
      𝓦.coefficient-is (𝓦.op b) (image a)
      ∙ ap (λ t. over_of floats float_tests modes t.re)
      (trace-same w (𝓦.read (𝓦.op b)) (majoranas_of floats modes b) (𝓦.read (image a)) W (𝓦.op-is b hb) (image-is a ha) w (le_refl w))

  -- the rest
  abbrev rest : ℕ → ℕ → 𝓦.M
  rest a zero = image a
  rest a (suc k) = 𝓦.less (rest a k) (𝓦.op k) (coefficient a k)

  rest-is : (a : ℕ) → a < w → (k : ℕ) → k ≤ w → Same w (𝓦.read (rest a k))
      (less_of floats modes (image_of floats float_tests modes (majoranas_of floats modes a) (𝓦.read u)) (entry_of floats float_tests modes (𝓦.read u) a) k)
  rest-is a ha zero l = image-is a ha
  rest-is a ha (suc k) l = λ r s hr hs.
      𝓦.less-is (rest a k) (𝓦.op k) (coefficient a k) r s hr hs
      ∙ (λ j. ℂ.add (rest-is a ha k (omega arith) r s hr hs j) (ℂ.neg (scale_of floats (𝓦.op-is k l r s hr hs j) (entry-is a k ha l j))))

  distance-is : (a : ℕ) → a < w → 𝓦.distance (rest a w) ≡ distance_of floats float_tests modes (𝓦.read u) a
  distance-is a ha =
      𝓦.distance-is (rest a w)
      ∙ ap (over_of floats float_tests modes)
      (square-same w (𝓦.read (rest a w)) (rest_of floats float_tests modes (𝓦.read u) a) (rest-is a ha w (le_refl w)) w (le_refl w))

-- ---- the constants

two : f2 ≡ add binary64 +1 +1
unfolding of_bits add sum round units odd size climb span count_trailing_zeros
two = refl

four : f4 ≡ add binary64 (add binary64 +1 +1) (add binary64 +1 +1)
unfolding of_bits add sum round units odd size climb span count_trailing_zeros
four = refl

-- ---- one mode

op1 : ℕ → Mat2
op1 zero = gate_x
op1 (suc a) = gate_y

op1-is : (a : ℕ) → a < 2 → Same 2 (in_mat2 (op1 a)) (majoranas_of floats 1 a)
unfolding op1 of_bits neg
op1-is =
    below-two (λ a. Same 2 (in_mat2 (op1 a)) (majoranas_of floats 1 a))
    (entries2 (λ r c. in_mat2 (op1 0) r c ≡ majoranas_of floats 1 0 r c) refl refl refl refl)
    (entries2 (λ r c. in_mat2 (op1 1) r c ≡ majoranas_of floats 1 1 r c) refl refl refl refl)

mul2-same : (a a' b b' : Mat ℂ) → Same 2 a a' → Same 2 b b' → Same 2 (mul2' floats a b) (mul2' floats a' b')
mul2-same a a' b b' e f r c hr hc =
    λ j. ℂ.add (ℂ.mul (e r 0 hr (lit< tt) j) (f 0 c (lit< tt) hc j)) (ℂ.mul (e r 1 hr (lit< tt) j) (f 1 c (lit< tt) hc j))

coefficient2-is : (c m : Mat2) → coefficient2_of c m ≡ over_of floats float_tests 1 (trace ℂ 2 (in_mat2 c) (in_mat2 m) 2).re
unfolding coefficient2_of trace2_of trace_row2_of sub of_bits
coefficient2-is c m = ap (div binary64 (trace ℂ 2 (in_mat2 c) (in_mat2 m) 2).re) two

less2-is : (m c : Mat2) (x : Float) → Same 2 (in_mat2 (less2_of m c x)) (λ r s. ℂ.add (in_mat2 m r s) (ℂ.neg (scale_of floats (in_mat2 c r s) x)))
unfolding less2_of less_row2_of sub
less2-is m c x =
    entries2 (λ r s. in_mat2 (less2_of m c x) r s ≡ ℂ.add (in_mat2 m r s) (ℂ.neg (scale_of floats (in_mat2 c r s) x))) refl refl refl refl

distance2-is : (m : Mat2) → div binary64 (square2_of m) f2 ≡ over_of floats float_tests 1 (square_of floats 2 (in_mat2 m) 2)
unfolding square2_of plus_row2_of of_bits
distance2-is m = ap (div binary64 (square_of floats 2 (in_mat2 m) 2)) two

abbrev one_mode : Width 1
one_mode = record {
  M = Mat2;
  read = in_mat2;
  op = op1;
  op-is = op1-is;
  mul = mul2_of;
  mul-is = rounded-matrices.product2;
  mul-same = mul2-same;
  dag = dag2_of;
  dag-is = rounded-matrices.adjoint2;
  coefficient = coefficient2_of;
  coefficient-is = coefficient2-is;
  less = less2_of;
  less-is = less2-is;
  distance = λ m. div binary64 (square2_of m) f2;
  distance-is = distance2-is;
}

module _ (u : Mat2) where
  entry-one : (a b : ℕ) → a < 2 → b < 2 → entry2 (majorana_map1_of u).q a b ≡ entry_of floats float_tests 1 (in_mat2 u) a b
  unfolding op1 majorana_map1_of map_row2_of coefficients2_of image2_of
  entry-one a b ha hb =
      entries2 (λ a b. entry2 (majorana_map1_of u).q a b ≡ coefficient 1 one_mode u a b) refl refl refl refl a b ha hb ∙ entry-is 1 one_mode u a b ha hb

  residual-one : (majorana_map1_of u).residual ≡ residual_of floats float_tests float_roots 1 (in_mat2 u) 2
  unfolding op1 majorana_map1_of largest_root_of map_distance2_of distance2_of rest2_of map_row2_of coefficients2_of image2_of of_bits
  residual-one =
      let d = distance-is 1 one_mode u in
      λ j. max_of (max_of f0 (sqrt_of (d 0 (lit< tt) j))) (sqrt_of (d 1 (lit< tt) j))

-- ---- two modes

op2 : ℕ → Mat4
op2 zero = majorana0
op2 (suc zero) = majorana1
op2 (suc (suc zero)) = majorana2
op2 (suc (suc (suc a))) = majorana3

op2-is : (a : ℕ) → a < 4 → Same 4 (in_mat4 (op2 a)) (majoranas_of floats 2 a)
unfolding op2 majorana0 majorana1 majorana2 majorana3 kron_of kron_row_of of_bits neg sub
op2-is =
    below-four (λ a. Same 4 (in_mat4 (op2 a)) (majoranas_of floats 2 a))
    (entries4 (λ r c. in_mat4 (op2 0) r c ≡ majoranas_of floats 2 0 r c) refl refl refl refl refl refl refl refl refl refl refl refl refl refl refl refl)
    (entries4 (λ r c. in_mat4 (op2 1) r c ≡ majoranas_of floats 2 1 r c) refl refl refl refl refl refl refl refl refl refl refl refl refl refl refl refl)
    (entries4 (λ r c. in_mat4 (op2 2) r c ≡ majoranas_of floats 2 2 r c) refl refl refl refl refl refl refl refl refl refl refl refl refl refl refl refl)
    (entries4 (λ r c. in_mat4 (op2 3) r c ≡ majoranas_of floats 2 3 r c) refl refl refl refl refl refl refl refl refl refl refl refl refl refl refl refl)

mul4-same : (a a' b b' : Mat ℂ) → Same 4 a a' → Same 4 b b' → Same 4 (mul4' floats float_tests a b) (mul4' floats float_tests a' b')
mul4-same a a' b b' e f r c hr hc =
    let x : (l : ℕ) → l < 4 → a r l ≡ a' r l = λ l h. e r l hr h in
    let y : (l : ℕ) → l < 4 → b l c ≡ b' l c = λ l h. f l c h hc in
    λ j. axpy' floats float_tests (axpy' floats float_tests (axpy' floats float_tests
    (axpy' floats float_tests ℂ.zero (x 0 (lit< tt) j) (y 0 (lit< tt) j)) (x 1 (lit< tt) j) (y 1 (lit< tt) j))
    (x 2 (lit< tt) j) (y 2 (lit< tt) j)) (x 3 (lit< tt) j) (y 3 (lit< tt) j)

coefficient4-is : (c m : Mat4) → coefficient4_of c m ≡ over_of floats float_tests 2 (trace ℂ 4 (in_mat4 c) (in_mat4 m) 4).re
unfolding coefficient4_of trace4_of trace_row4_of sub of_bits
coefficient4-is c m = ap (div binary64 (trace ℂ 4 (in_mat4 c) (in_mat4 m) 4).re) four

less4-is : (m c : Mat4) (x : Float) → Same 4 (in_mat4 (less4_of m c x)) (λ r s. ℂ.add (in_mat4 m r s) (ℂ.neg (scale_of floats (in_mat4 c r s) x)))
unfolding less4_of less_row4_of sub
less4-is m c x =
    entries4 (λ r s. in_mat4 (less4_of m c x) r s ≡ ℂ.add (in_mat4 m r s) (ℂ.neg (scale_of floats (in_mat4 c r s) x)))
    refl refl refl refl refl refl refl refl refl refl refl refl refl refl refl refl

distance4-is : (m : Mat4) → div binary64 (square4_of m) f4 ≡ over_of floats float_tests 2 (square_of floats 4 (in_mat4 m) 4)
unfolding square4_of plus_row4_of of_bits
distance4-is m = ap (div binary64 (square_of floats 4 (in_mat4 m) 4)) four

abbrev two_modes : Width 2
two_modes = record {
  M = Mat4;
  read = in_mat4;
  op = op2;
  op-is = op2-is;
  mul = mul4_of;
  mul-is = rounded-matrices.product4;
  mul-same = mul4-same;
  dag = dag4_of;
  dag-is = rounded-matrices.adjoint4;
  coefficient = coefficient4_of;
  coefficient-is = coefficient4-is;
  less = less4_of;
  less-is = less4-is;
  distance = λ m. div binary64 (square4_of m) f4;
  distance-is = distance4-is;
}

module _ (u : Mat4) where
  entry-two : (a b : ℕ) → a < 4 → b < 4 → entry4 (majorana_map2_of u).q a b ≡ entry_of floats float_tests 2 (in_mat4 u) a b
  unfolding op2 majorana_map2_of map_row4_of coefficients4_of image4_of
  entry-two a b ha hb =
      entries4 (λ a b. entry4 (majorana_map2_of u).q a b ≡ coefficient 2 two_modes u a b)
      refl refl refl refl refl refl refl refl refl refl refl refl refl refl refl refl a b ha hb
      ∙ entry-is 2 two_modes u a b ha hb

  residual-two : (majorana_map2_of u).residual ≡ residual_of floats float_tests float_roots 2 (in_mat4 u) 4
  unfolding op2 majorana_map2_of largest_root_of map_distance4_of distance4_of rest4_of map_row4_of coefficients4_of image4_of of_bits
  residual-two =
      let d = distance-is 2 two_modes u in
      let roots : Float → Float → Float → Float → Float = λ x y z w. max_of (max_of (max_of (max_of f0 (sqrt_of x)) (sqrt_of y)) (sqrt_of z)) (sqrt_of w) in
      λ j. roots (d 0 (lit< tt) j) (d 1 (lit< tt) j) (d 2 (lit< tt) j) (d 3 (lit< tt) j)

pub rounded-maps : RoundedMaps
rounded-maps = record { entry_one = entry-one; entry_two = entry-two; residual_one = residual-one; residual_two = residual-two }
