-- The engine's own words (specs/Words.antt) say the map and the rest of specs/Maps.antt, in exact numbers. Assumes nothing.
use mathlib.Core.Path.{◌≡◌, refl, sym, ap, subst, ◌∙◌}
use mathlib.Core.Logic.{◌⊎◌, inl, inr}
use mathlib.Core.Bool.{Bool, true, false, cond, ◌&&◌}
use Prim.Native.Nat.{ℕ, zero, suc, ◌*◌}
use lib.Dec.{eqb}
use Rattle.rings.specs.Rings.{Ops, IsRing}
use Rattle.formulas.specs.Numbers.{Tests, Divides}
use Rattle.formulas.specs.Engine.{Mat, dot}
use Rattle.matchgates.specs.Matrices.{product, identity, kron, mat_x, mat_y, mat_z, single, double, majoranas, trace, less_sum}
use Rattle.matchgates.specs.Maps.{image, map_of, rest, part}
use Rattle.matchgates.specs.Residuals.{Sizes, norms_on, squares, distance, largest_root}
use Rattle.matchgates.specs.Complex.{complex, flat, Real}
use Rattle.matchgates.specs.Words.{Roots, ci, scale_of, is_zero_of, gate_y, gate_z, single_of, double_of, majoranas_of, mul2_of}
use Rattle.matchgates.specs.Words.{axpy_of, mul4_of, mul_of, image_of, over_of, entry_of, less_of, rest_of, norm_sqr_of, norms_of, square_of, distance_of}
use Rattle.matchgates.specs.Words.{residual_of}
use Rattle.matchgates.specs.InWords.{Keeps, InWords}
use Rattle.rings.proofs.Rings.{zero-add, zero-mul, mul-zero, neg-zero, neg-neg, neg-add, mul-neg}
use Rattle.rings.proofs.Solve.{and-left, and-right}
use Rattle.matchgates.proofs.Complex.{ring-pairs, flats, flat-add, exact, conjugate, real-part}

module _ {𝓡 : Ops} {below : 𝓡.N → Bool} (𝓕 : Real 𝓡 below) {𝓣 : Tests 𝓡} (𝓥 : Divides 𝓡 𝓣) where
  open 𝓡 use {N, zero as 𝟘, one as 𝟙, add as ◌⊹◌, mul as ◌⋆◌, neg}

  infixl 65 ◌⊹◌
  infixl 70 ◌⋆◌
  abbrev 𝓛 : IsRing 𝓡
  𝓛 = 𝓕.laws.ring

  abbrev ℂ : Ops
  ℂ = complex 𝓡

  abbrev i : ℂ.N
  i = ci 𝓡

  -- a zero that is skipped
  axpy-is : (m x s : ℂ.N) → axpy_of 𝓡 𝓣 m x s ≡ ℂ.add m (ℂ.mul x s)
  axpy-is m x s = by (is_zero_of 𝓡 𝓣 x) refl
    where
      by : (b : Bool) → 𝓣.null x.re && 𝓣.null x.im ≡ b → cond b m (ℂ.add m (ℂ.mul x s)) ≡ ℂ.add m (ℂ.mul x s)
      by false e = refl
      by true e =
          sym ((ring-pairs 𝓕).add-zero m)
          ∙ ap (ℂ.add m) (sym (ap (λ t. ℂ.mul t s) gone ∙ zero-mul (ring-pairs 𝓕) s))
        where
          gone : x ≡ ℂ.zero
          gone = λ j. record {
            re = 𝓥.is-null x.re (and-left (𝓣.null x.re) (𝓣.null x.im) e) j;
            im = 𝓥.is-null x.im (and-right (𝓣.null x.re) (𝓣.null x.im) e) j;
          }

  mul2-is : (a b : Mat ℂ) (r c : ℕ) → mul2_of 𝓡 a b r c ≡ product ℂ 2 a b r c
  unfolding dot
  mul2-is a b r c = ap (λ t. ℂ.add t (ℂ.mul (a r 1) (b 1 c))) (sym (zero-add (ring-pairs 𝓕) (ℂ.mul (a r 0) (b 0 c))))

  mul4-is : (a b : Mat ℂ) (r c : ℕ) → mul4_of 𝓡 𝓣 a b r c ≡ product ℂ 4 a b r c
  unfolding dot
  mul4-is a b r c =
      axpy-is (axpy_of 𝓡 𝓣 (axpy_of 𝓡 𝓣 (axpy_of 𝓡 𝓣 ℂ.zero (a r 0) (b 0 c)) (a r 1) (b 1 c)) (a r 2) (b 2 c)) (a r 3) (b 3 c)
      ∙ ap (λ t. ℂ.add t (ℂ.mul (a r 3) (b 3 c)))
      (axpy-is (axpy_of 𝓡 𝓣 (axpy_of 𝓡 𝓣 ℂ.zero (a r 0) (b 0 c)) (a r 1) (b 1 c)) (a r 2) (b 2 c)
      ∙ ap (λ t. ℂ.add t (ℂ.mul (a r 2) (b 2 c)))
      (axpy-is (axpy_of 𝓡 𝓣 ℂ.zero (a r 0) (b 0 c)) (a r 1) (b 1 c)
      ∙ ap (λ t. ℂ.add t (ℂ.mul (a r 1) (b 1 c))) (axpy-is ℂ.zero (a r 0) (b 0 c))))

  mul-is : (modes : ℕ) → (modes ≡ 1) ⊎ (modes ≡ 2) → (a b : Mat ℂ) (r c : ℕ) → mul_of 𝓡 𝓣 modes a b r c ≡ product ℂ (2 * modes) a b r c
  mul-is modes (inl e) a b r c = subst (λ m. mul_of 𝓡 𝓣 m a b r c ≡ product ℂ (2 * m) a b r c) (sym e) (mul2-is a b r c)
  mul-is modes (inr e) a b r c = subst (λ m. mul_of 𝓡 𝓣 m a b r c ≡ product ℂ (2 * m) a b r c) (sym e) (mul4-is a b r c)

  abbrev image_in : ℕ → Mat ℂ → Mat ℂ → Mat ℂ
  image_in = image (conjugate 𝓕)

  image-is : (modes : ℕ) → (modes ≡ 1) ⊎ (modes ≡ 2) → (c u : Mat ℂ) → image_of 𝓡 𝓣 modes c u ≡ image_in (2 * modes) c u
  image-is modes few c u =
      λ j r s. (mul-is modes few (λ p q. record { re = (u q p).re; im = neg (u q p).im }) (mul_of 𝓡 𝓣 modes c u) r s
      ∙ (λ k. product ℂ (2 * modes) (λ p q. record { re = (u q p).re; im = neg (u q p).im }) (λ p q. mul-is modes few c u p q k) r s)) j

  -- a factor of 1 is not null
  not-null : (h d : N) → h ⋆ d ≡ 𝟙 → 𝓣.null d ≡ false
  not-null h d e = by (𝓣.null d) refl
    where
      none : 𝓣.null d ≡ true → 𝟙 ≡ 𝟘
      none t = sym e ∙ ap (λ a. h ⋆ a) (𝓥.is-null d t) ∙ mul-zero 𝓛 h

      by : (b : Bool) → 𝓣.null d ≡ b → b ≡ false
      by false t = refl
      by true t = sym (sym 𝓕.not-below ∙ ap below (none t ∙ sym (neg-zero 𝓛) ∙ ap neg (sym (none t))) ∙ 𝓕.is-below)

  quotient-is : (s h d : N) → h ⋆ d ≡ 𝟙 → 𝓣.div s d ≡ s ⋆ h
  quotient-is s h d e =
      sym (𝓛.mul-one (𝓣.div s d))
      ∙ ap (λ a. 𝓣.div s d ⋆ a) (sym e ∙ 𝓕.laws.comm h d)
      ∙ sym (𝓛.mul-assoc (𝓣.div s d) d h)
      ∙ ap (λ a. a ⋆ h) (𝓥.quotient s d (not-null h d e))

  abbrev two : N
  two = 𝟙 ⊹ 𝟙

  half-two : 𝓕.half ⋆ two ≡ 𝟙
  half-two = 𝓛.left 𝓕.half 𝟙 𝟙 ∙ (λ j. 𝓛.mul-one 𝓕.half j ⊹ 𝓛.mul-one 𝓕.half j) ∙ 𝓕.halves

  -- (s + s) / 2
  pub over-double : (s : N) → 𝓣.div (s ⊹ s) two ≡ s
  over-double s =
      quotient-is (s ⊹ s) 𝓕.half two half-two ∙ 𝓛.right s s 𝓕.half ∙ sym (𝓛.left s 𝓕.half 𝓕.half) ∙ ap (λ a. s ⋆ a) 𝓕.halves ∙ 𝓛.mul-one s

  quarter-four : 𝓕.half ⋆ 𝓕.half ⋆ (two ⊹ two) ≡ 𝟙
  quarter-four =
      𝓛.mul-assoc 𝓕.half 𝓕.half (two ⊹ two)
      ∙ ap (λ a. 𝓕.half ⋆ a) (𝓛.left 𝓕.half two two ∙ (λ j. half-two j ⊹ half-two j)) ∙ half-two

  over-is : (modes : ℕ) (s : N) → flat 𝓡 (over_of 𝓡 𝓣 modes s) ≡ ℂ.mul (flat 𝓡 s) (part (exact 𝓕) modes)
  over-is modes s = by (eqb modes 1)
    where
      by : (b : Bool) → flat 𝓡 (𝓣.div s (cond b two (two ⊹ two)))
          ≡ ℂ.mul (flat 𝓡 s) (cond b (flat 𝓡 𝓕.half) (ℂ.mul (flat 𝓡 𝓕.half) (flat 𝓡 𝓕.half)))
      by true = ap (flat 𝓡) (quotient-is s 𝓕.half two half-two) ∙ sym (flats 𝓕 s 𝓕.half)
      by false =
          ap (flat 𝓡) (quotient-is s (𝓕.half ⋆ 𝓕.half) (two ⊹ two) quarter-four) ∙ sym (flats 𝓕 s (𝓕.half ⋆ 𝓕.half))
          ∙ ap (ℂ.mul (flat 𝓡 s)) (sym (flats 𝓕 𝓕.half 𝓕.half))

  -- the Majorana matrices: zeros have no sign here
  abbrev Words : ℕ → ℕ → Mat ℂ
  Words = majoranas_of 𝓡

  minus-i : record { re = 𝟘; im = neg 𝟙 } ≡ ℂ.neg i
  minus-i = λ j. record { re = sym (neg-zero 𝓛) j; im = neg 𝟙 }

  minus-one : record { re = neg 𝟙; im = 𝟘 } ≡ ℂ.neg ℂ.one
  minus-one = λ j. record { re = neg 𝟙; im = sym (neg-zero 𝓛) j }

  y-is : gate_y 𝓡 ≡ mat_y ℂ i
  y-is = λ j r c. cond (eqb r c) ℂ.zero (cond (eqb r 0) (minus-i j) i)

  z-is : gate_z 𝓡 ≡ mat_z ℂ
  z-is = λ j r c. cond (eqb r c) (cond (eqb r 0) ℂ.one (minus-one j)) ℂ.zero

  single-is : (a : ℕ) → single_of 𝓡 a ≡ single ℂ i a
  single-is zero = refl
  single-is (suc a) = y-is

  double-is : (a : ℕ) → double_of 𝓡 a ≡ double ℂ i a
  double-is zero = refl
  double-is (suc zero) = ap (λ m. kron ℂ m (identity ℂ)) y-is
  double-is (suc (suc zero)) = ap (λ m. kron ℂ m (mat_x ℂ)) z-is
  double-is (suc (suc (suc a))) = λ j. kron ℂ (z-is j) (y-is j)

  majoranas-is : (modes a : ℕ) → Words modes a ≡ majoranas ℂ i modes a
  majoranas-is modes a = λ j. cond (eqb modes 1) (single-is a j) (double-is a j)

  -- THE MAP: the entry of the statement is the engine's, with no imaginary part
  map-is : (modes : ℕ) → (modes ≡ 1) ⊎ (modes ≡ 2) → (u : Mat ℂ) (a b : ℕ)
      → flat 𝓡 (entry_of 𝓡 𝓣 modes u a b) ≡ map_of (exact 𝓕) (conjugate 𝓕) modes u a b
  map-is modes few u a b =
      (λ j. flat 𝓡 (over_of 𝓡 𝓣 modes (trace ℂ (2 * modes) (majoranas-is modes b j) (image_of 𝓡 𝓣 modes (majoranas-is modes a j) u) (2 * modes)).re))
      ∙ ap (λ w. flat 𝓡 (over_of 𝓡 𝓣 modes (trace ℂ (2 * modes) (majoranas ℂ i modes b) w (2 * modes)).re)) (image-is modes few (majoranas ℂ i modes a) u)
      ∙ over-is modes t.re
      ∙ ap (λ s. ℂ.mul s (part (exact 𝓕) modes)) (sym (real-part 𝓕 t))
    where
      t : ℂ.N
      t = trace ℂ (2 * modes) (majoranas ℂ i modes b) (image_in (2 * modes) (majoranas ℂ i modes a) u) (2 * modes)

  scale-is : (s : ℂ.N) (q : N) → scale_of 𝓡 s q ≡ ℂ.mul s (flat 𝓡 q)
  scale-is s q = λ j. record {
    re = sym (ap (λ a. s.re ⋆ q ⊹ neg a) (mul-zero 𝓛 s.im) ∙ ap (λ a. s.re ⋆ q ⊹ a) (neg-zero 𝓛) ∙ 𝓛.add-zero (s.re ⋆ q)) j;
    im = sym (ap (λ a. a ⊹ s.im ⋆ q) (mul-zero 𝓛 s.re) ∙ zero-add 𝓛 (s.im ⋆ q)) j;
  }

  less-is : (modes : ℕ) (w : Mat ℂ) (q : ℕ → N) (k r c : ℕ) → less_of 𝓡 modes w q k r c ≡ less_sum ℂ i modes w (λ b. flat 𝓡 (q b)) k r c
  less-is modes w q zero r c = refl
  less-is modes w q (suc k) r c =
      λ j. ℂ.add (less-is modes w q k r c j)
      (ℂ.neg ((ap (λ m. scale_of 𝓡 (m r c) (q k)) (majoranas-is modes k) ∙ scale-is (majoranas ℂ i modes k r c) (q k)) j))

  -- THE REST: what the engine's residual measures
  rest-is : (modes : ℕ) → (modes ≡ 1) ⊎ (modes ≡ 2) → (u : Mat ℂ) (a r c : ℕ)
      → rest_of 𝓡 𝓣 modes u a r c ≡ rest (exact 𝓕) (conjugate 𝓕) modes u a r c
  rest-is modes few u a r c =
      less-is modes (image_of 𝓡 𝓣 modes (Words modes a) u) (entry_of 𝓡 𝓣 modes u a) (2 * modes) r c
      ∙ (λ j. less_sum ℂ i modes ((ap (λ m. image_of 𝓡 𝓣 modes m u) (majoranas-is modes a) ∙ image-is modes few (majoranas ℂ i modes a) u) j)
      (λ b. map-is modes few u a b j) (2 * modes) r c)

  -- s s* = |s|^2
  norm-is : (s : ℂ.N) → flat 𝓡 (norm_sqr_of 𝓡 s) ≡ ℂ.mul s ((conjugate 𝓕).conj s)
  norm-is s = λ j. record {
    re = (ap (λ a. s.re ⋆ s.re ⊹ a) (sym (neg-neg 𝓛 (s.im ⋆ s.im)) ∙ ap neg (sym (mul-neg 𝓛 s.im s.im)))) j;
    im = sym ((λ k. mul-neg 𝓛 s.re s.im k ⊹ 𝓕.laws.comm s.im s.re k) ∙ neg-add 𝓛 (s.re ⋆ s.im)) j;
  }

  norms-is : (t : N) (t' : ℂ.N) (f f' : ℕ → ℂ.N) (k : ℕ) → flat 𝓡 t ≡ t' → ((l : ℕ) → f l ≡ f' l)
      → flat 𝓡 (norms_of 𝓡 t f k) ≡ norms_on (conjugate 𝓕) t' f' k
  norms-is t t' f f' zero e g = e
  norms-is t t' f f' (suc k) e g =
      flat-add 𝓕 (norms_of 𝓡 t f k) (norm_sqr_of 𝓡 (f k))
      ∙ (λ j. ℂ.add (norms-is t t' f f' k e g j) ((norm-is (f k) ∙ ap (λ s. ℂ.mul s ((conjugate 𝓕).conj s)) (g k)) j))

  squares-is : (w : ℕ) (m m' : Mat ℂ) → ((r c : ℕ) → m r c ≡ m' r c) → (k : ℕ)
      → flat 𝓡 (square_of 𝓡 w m k) ≡ squares (conjugate 𝓕) w m' k
  squares-is w m m' e zero = refl
  squares-is w m m' e (suc k) = norms-is (square_of 𝓡 w m k) (squares (conjugate 𝓕) w m' k) (m k) (m' k) w (squares-is w m m' e k) (e k)

  -- THE DISTANCE, of which the residual is the largest root
  distance-is : (modes : ℕ) → (modes ≡ 1) ⊎ (modes ≡ 2) → (u : Mat ℂ) (a : ℕ)
      → flat 𝓡 (distance_of 𝓡 𝓣 modes u a) ≡ distance (exact 𝓕) (conjugate 𝓕) modes u a
  distance-is modes few u a =
      over-is modes (square_of 𝓡 (2 * modes) (rest_of 𝓡 𝓣 modes u a) (2 * modes))
      ∙ ap (λ s. ℂ.mul s (part (exact 𝓕) modes))
      (squares-is (2 * modes) (rest_of 𝓡 𝓣 modes u a) (rest (exact 𝓕) (conjugate 𝓕) modes u a) (rest-is modes few u a) (2 * modes))

  -- THE RESIDUAL
  residual-is : (𝓢 : Sizes (exact 𝓕) (conjugate 𝓕)) (𝓦 : Roots 𝓡) → Keeps (exact 𝓕) (conjugate 𝓕) 𝓢 𝓦 → (modes : ℕ) → (modes ≡ 1) ⊎ (modes ≡ 2)
      → (u : Mat ℂ) (k : ℕ) → flat 𝓡 (residual_of 𝓡 𝓣 𝓦 modes u k) ≡ largest_root 𝓢 modes u k
  residual-is 𝓢 𝓦 h modes few u zero = refl
  residual-is 𝓢 𝓦 h modes few u (suc k) =
      sym (h.larger (residual_of 𝓡 𝓣 𝓦 modes u k) (𝓦.root (distance_of 𝓡 𝓣 modes u k)))
      ∙ (λ j. 𝓢.larger (residual-is 𝓢 𝓦 h modes few u k j) ((sym (h.root (distance_of 𝓡 𝓣 modes u k)) ∙ ap 𝓢.root (distance-is modes few u k)) j))

  -- THE ENGINE'S WORDS
  pub in-words : InWords (exact 𝓕) (conjugate 𝓕) 𝓣
  in-words = record {
    in-map = map-is;
    in-rest = rest-is;
    in-distance = distance-is;
    in-residual = λ 𝓢 𝓦 h modes few u. residual-is 𝓢 𝓦 h modes few u (2 * modes);
  }
