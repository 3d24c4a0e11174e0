-- Traces of the Majorana matrices: the trace of c_b and a sum of them is 2 or 4 times its coefficient; c_b and u* c_a u are their own adjoints.
-- Assumes nothing.
use mathlib.Core.Path.{◌≡◌, refl, sym, ap, subst, ◌∙◌}
use mathlib.Core.Logic.{◌⊎◌, inl, inr}
use mathlib.Core.Bool.{Bool, true, false, cond, xor}
use mathlib.Core.List.{List, [], ◌∷◌}
use Prim.Native.Nat.{ℕ, zero, suc, ◌+◌, ◌*◌, ◌-◌, ◌/◌, ◌%◌, ◌≤◌, ◌<◌}
use native.Mathlib.Omega.{arith}
use lib.Dec.{eqb, ltb}
use Rattle.rings.specs.Rings.{Ops, IsRing}
use Rattle.formulas.specs.Numbers.{Exact}
use Rattle.formulas.specs.Engine.{Mat, dot}
use Rattle.matchgates.specs.Matrices.{identity, mat_x, mat_y, mat_z, kron, single, double, majoranas, dot_on, trace, less_sum}
use Rattle.matchgates.specs.Maps.{Conjugate, re, image, part, map_of}
use Rattle.rings.proofs.Rings.{neg-neg, neg-unique, neg-zero, neg-sum, add-cancel}
use Rattle.rings.proofs.Solve.{Exp, var, plus, times, minus, exps, solve, commuting, obeys-comm, by-comm}
use Rattle.laws.proofs.Below.{below-two, below-four}

-- q_0 c_0 + .. + q_(k - 1) c_(k - 1)
abbrev pub mixed : (𝓝 : Ops) → 𝓝.N → ℕ → (ℕ → 𝓝.N) → ℕ → Mat 𝓝
mixed 𝓝 i modes q zero = λ r c. 𝓝.zero
mixed 𝓝 i modes q (suc j) = λ r c. 𝓝.add (mixed 𝓝 i modes q j r c) (𝓝.mul (majoranas 𝓝 i modes j r c) (q j))

-- ---- terms: the coefficients are the variables 0 to 3, and i is var 4

abbrev trace_e : ℕ → ℕ → Exp
trace_e modes b = trace exps (2 * modes) (majoranas exps (var 4) modes b) (mixed exps (var 4) modes var (2 * modes)) (2 * modes)

abbrev twice : Exp → Exp
twice e = plus e e

-- - i i
abbrev one_e : Exp
one_e = minus (times (var 4) (var 4))

-- terms: x is 0 to 3, y is 4 to 7, the entry (r, c) of a matrix is 8 + 4 r + c
abbrev by_rows_e : ℕ → Exp
by_rows_e w = dot exps (λ m. var (4 + m)) (λ m. dot exps (λ l. var (8 + 4 * m + l)) var w) w

abbrev by_columns_e : ℕ → Exp
by_columns_e w = dot exps var (λ l. dot exps (λ m. var (8 + 4 * m + l)) (λ m. var (4 + m)) w) w

module _ {𝓝 : Ops} {below : 𝓝.N → Bool} (𝓔 : Exact 𝓝 below) (𝓙 : Conjugate 𝓝 𝓔.i) where
  open 𝓝 use {N, zero as 𝟘, one as 𝟙, add as ◌⊹◌, mul as ◌⋆◌, neg}

  infixl 65 ◌⊹◌
  infixl 70 ◌⋆◌
  abbrev 𝓛 : IsRing 𝓝
  𝓛 = 𝓔.laws.ring

  abbrev i : N
  i = 𝓔.i

  abbrev cs : ℕ → ℕ → Mat 𝓝
  cs = majoranas 𝓝 i

  -- ---- the trace

  -- 2 s, or 4 s
  abbrev pub multiple : ℕ → N → N
  multiple modes s = cond (eqb modes 1) (s ⊹ s) (s ⊹ s ⊹ (s ⊹ s))

  module _ (q : ℕ → N) where
    abbrev values : List N
    values = q 0 ∷ q 1 ∷ q 2 ∷ q 3 ∷ i ∷ []

    minus-square : neg (i ⋆ i) ≡ 𝟙
    minus-square = ap neg 𝓔.i-square ∙ neg-neg 𝓛 𝟙

    drop : (s : N) → neg (i ⋆ i) ⋆ s ≡ s
    drop s = ap (λ t. t ⋆ s) minus-square ∙ 𝓛.one-mul s

    trace-one : (b : ℕ) → b < 2 → trace 𝓝 2 (cs 1 b) (mixed 𝓝 i 1 q 2) 2 ≡ q b ⊹ q b
    unfolding xor
    trace-one = below-two (λ b. trace 𝓝 2 (cs 1 b) (mixed 𝓝 i 1 q 2) 2 ≡ q b ⊹ q b)
        (by-comm 𝓔.laws values (trace_e 1 0) (twice (var 0)) refl)
        (by-comm 𝓔.laws values (trace_e 1 1) (times one_e (twice (var 1))) refl ∙ drop (q 1 ⊹ q 1))

    trace-two : (b : ℕ) → b < 4 → trace 𝓝 4 (cs 2 b) (mixed 𝓝 i 2 q 4) 4 ≡ q b ⊹ q b ⊹ (q b ⊹ q b)
    unfolding xor
    trace-two = below-four (λ b. trace 𝓝 4 (cs 2 b) (mixed 𝓝 i 2 q 4) 4 ≡ q b ⊹ q b ⊹ (q b ⊹ q b))
        (by-comm 𝓔.laws values (trace_e 2 0) (twice (twice (var 0))) refl)
        (by-comm 𝓔.laws values (trace_e 2 1) (times one_e (twice (twice (var 1)))) refl ∙ drop (q 1 ⊹ q 1 ⊹ (q 1 ⊹ q 1)))
        (by-comm 𝓔.laws values (trace_e 2 2) (twice (twice (var 2))) refl)
        (by-comm 𝓔.laws values (trace_e 2 3) (times one_e (twice (twice (var 3)))) refl ∙ drop (q 3 ⊹ q 3 ⊹ (q 3 ⊹ q 3)))

  trace-is : (modes : ℕ) → (modes ≡ 1) ⊎ (modes ≡ 2) → (q : ℕ → N) (b : ℕ) → b < 2 * modes
      → trace 𝓝 (2 * modes) (cs modes b) (mixed 𝓝 i modes q (2 * modes)) (2 * modes) ≡ multiple modes (q b)
  trace-is modes (inl e) q =
      subst (λ m. (b : ℕ) → b < 2 * m → trace 𝓝 (2 * m) (cs m b) (mixed 𝓝 i m q (2 * m)) (2 * m) ≡ multiple m (q b)) (sym e) (trace-one q)
  trace-is modes (inr e) q =
      subst (λ m. (b : ℕ) → b < 2 * m → trace 𝓝 (2 * m) (cs m b) (mixed 𝓝 i m q (2 * m)) (2 * m) ≡ multiple m (q b)) (sym e) (trace-two q)

  -- equal entries have equal sums
  dot_on-same : (t t' : N) (p q q' : ℕ → N) (k : ℕ) → t ≡ t' → ((l : ℕ) → l < k → q l ≡ q' l) → dot_on 𝓝 t p q k ≡ dot_on 𝓝 t' p q' k
  dot_on-same t t' p q q' zero e d = e
  dot_on-same t t' p q q' (suc k) e d = λ j. dot_on-same t t' p q q' k e (λ l h. d l (omega arith)) j ⊹ p k ⋆ d k (omega arith) j

  trace-same : (w : ℕ) (c m m' : Mat 𝓝) → ((r s : ℕ) → r < w → s < w → m r s ≡ m' r s) → (k : ℕ) → k ≤ w → trace 𝓝 w c m k ≡ trace 𝓝 w c m' k
  trace-same w c m m' e zero l = refl
  trace-same w c m m' e (suc k) l =
      dot_on-same (trace 𝓝 w c m k) (trace 𝓝 w c m' k) (c k) (λ s. m s k) (λ s. m' s k) w (trace-same w c m m' e k (omega arith)) (λ s h. e s k h l)

  -- ---- parts of multiples

  halved : (s : N) → 𝓔.half ⋆ (s ⊹ s) ≡ s
  halved s = 𝓛.left 𝓔.half s s ∙ sym (𝓛.right 𝓔.half 𝓔.half s) ∙ ap (λ t. t ⋆ s) 𝓔.halves ∙ 𝓛.one-mul s

  halved-after : (s : N) → (s ⊹ s) ⋆ 𝓔.half ≡ s
  halved-after s = 𝓔.laws.comm (s ⊹ s) 𝓔.half ∙ halved s

  part-is : (modes : ℕ) (s : N) → multiple modes s ⋆ part 𝓔 modes ≡ s
  part-is modes s = by (eqb modes 1)
    where
      by : (b : Bool) → cond b (s ⊹ s) (s ⊹ s ⊹ (s ⊹ s)) ⋆ cond b 𝓔.half (𝓔.half ⋆ 𝓔.half) ≡ s
      by true = halved-after s
      by false = sym (𝓛.mul-assoc (s ⊹ s ⊹ (s ⊹ s)) 𝓔.half 𝓔.half) ∙ ap (λ t. t ⋆ 𝓔.half) (halved-after (s ⊹ s)) ∙ halved-after s

  conj-multiple : (modes : ℕ) (s : N) → 𝓙.conj (multiple modes s) ≡ multiple modes (𝓙.conj s)
  conj-multiple modes s = by (eqb modes 1)
    where
      by : (b : Bool) → 𝓙.conj (cond b (s ⊹ s) (s ⊹ s ⊹ (s ⊹ s))) ≡ cond b (𝓙.conj s ⊹ 𝓙.conj s) (𝓙.conj s ⊹ 𝓙.conj s ⊹ (𝓙.conj s ⊹ 𝓙.conj s))
      by true = 𝓙.conj-add s s
      by false = 𝓙.conj-add (s ⊹ s) (s ⊹ s) ∙ (λ j. 𝓙.conj-add s s j ⊹ 𝓙.conj-add s s j)

  -- the engine's coefficient of a real number's multiple
  coefficient-is : (modes : ℕ) (t s : N) → t ≡ multiple modes s → 𝓙.conj s ≡ s → re 𝓔 𝓙 t ⋆ part 𝓔 modes ≡ s
  coefficient-is modes t s e d =
      ap (λ a. a ⋆ part 𝓔 modes)
      (ap (re 𝓔 𝓙) e ∙ ap (λ a. 𝓔.half ⋆ (multiple modes s ⊹ a)) (conj-multiple modes s ∙ ap (multiple modes) d) ∙ halved (multiple modes s))
      ∙ part-is modes s

  -- ---- adjoints

  pub conj-zero : 𝓙.conj 𝟘 ≡ 𝟘
  conj-zero =
      add-cancel 𝓛 (𝓙.conj 𝟘) (𝓙.conj 𝟘) 𝟘 (sym (𝓙.conj-add 𝟘 𝟘) ∙ ap 𝓙.conj (𝓛.add-zero 𝟘) ∙ sym (𝓛.add-zero (𝓙.conj 𝟘)))

  conj-neg : (s : N) → 𝓙.conj (neg s) ≡ neg (𝓙.conj s)
  conj-neg s = neg-unique 𝓛 (𝓙.conj s) (𝓙.conj (neg s)) (sym (𝓙.conj-add s (neg s)) ∙ ap 𝓙.conj (𝓛.add-neg s) ∙ conj-zero)

  pub conj-one : 𝓙.conj 𝟙 ≡ 𝟙
  conj-one =
      sym (𝓛.mul-one (𝓙.conj 𝟙))
      ∙ ap (λ s. 𝓙.conj 𝟙 ⋆ s) (sym (𝓙.conj-conj 𝟙))
      ∙ sym (𝓙.conj-mul 𝟙 (𝓙.conj 𝟙))
      ∙ ap 𝓙.conj (𝓛.one-mul (𝓙.conj 𝟙))
      ∙ 𝓙.conj-conj 𝟙

  abbrev Hermitian : ℕ → Mat 𝓝 → Type 0
  Hermitian w c = (r s : ℕ) → r < w → s < w → 𝓙.conj (c r s) ≡ c s r

  two-by-two : (c : Mat 𝓝) → 𝓙.conj (c 0 0) ≡ c 0 0 → 𝓙.conj (c 0 1) ≡ c 1 0 → 𝓙.conj (c 1 0) ≡ c 0 1 → 𝓙.conj (c 1 1) ≡ c 1 1 → Hermitian 2 c
  two-by-two c e₀ e₁ e₂ e₃ r s hr hs =
      below-two (λ r. 𝓙.conj (c r s) ≡ c s r) (below-two (λ s. 𝓙.conj (c 0 s) ≡ c s 0) e₀ e₁ s hs) (below-two (λ s. 𝓙.conj (c 1 s) ≡ c s 1) e₂ e₃ s hs) r hr

  her-x : Hermitian 2 (mat_x 𝓝)
  her-x = two-by-two (mat_x 𝓝) conj-zero conj-one conj-one conj-zero

  her-y : Hermitian 2 (mat_y 𝓝 i)
  her-y = two-by-two (mat_y 𝓝 i) conj-zero (conj-neg i ∙ ap neg 𝓙.conj-i ∙ neg-neg 𝓛 i) 𝓙.conj-i conj-zero

  her-z : Hermitian 2 (mat_z 𝓝)
  her-z = two-by-two (mat_z 𝓝) conj-one conj-zero conj-zero (conj-neg 𝟙 ∙ ap neg conj-one)

  her-id : Hermitian 2 (identity 𝓝)
  her-id = two-by-two (identity 𝓝) conj-one conj-zero conj-zero conj-one

  her-kron : (a b : Mat 𝓝) → Hermitian 2 a → Hermitian 2 b → Hermitian 4 (kron 𝓝 a b)
  her-kron a b e d r s hr hs =
      𝓙.conj-mul (a (r / 2) (s / 2)) (b (r % 2) (s % 2))
      ∙ (λ j. e (r / 2) (s / 2) (omega arith) (omega arith) j ⋆ d (r % 2) (s % 2) (omega arith) (omega arith) j)

  her-cs : (modes : ℕ) → (modes ≡ 1) ⊎ (modes ≡ 2) → (b : ℕ) → b < 2 * modes → Hermitian (2 * modes) (cs modes b)
  her-cs modes (inl e) =
      subst (λ m. (b : ℕ) → b < 2 * m → Hermitian (2 * m) (cs m b)) (sym e) (below-two (λ b. Hermitian 2 (single 𝓝 i b)) her-x her-y)
  her-cs modes (inr e) =
      subst (λ m. (b : ℕ) → b < 2 * m → Hermitian (2 * m) (cs m b)) (sym e)
      (below-four (λ b. Hermitian 4 (double 𝓝 i b)) (her-kron (mat_x 𝓝) (identity 𝓝) her-x her-id) (her-kron (mat_y 𝓝 i) (identity 𝓝) her-y her-id)
      (her-kron (mat_z 𝓝) (mat_x 𝓝) her-z her-x) (her-kron (mat_z 𝓝) (mat_y 𝓝 i) her-z her-y))

  pub conj-dot : (p q p' q' : ℕ → N) (k : ℕ) → ((l : ℕ) → l < k → 𝓙.conj (p l) ≡ p' l) → ((l : ℕ) → l < k → 𝓙.conj (q l) ≡ q' l)
      → 𝓙.conj (dot 𝓝 p q k) ≡ dot 𝓝 p' q' k
  unfolding dot
  conj-dot p q p' q' zero e d = conj-zero
  conj-dot p q p' q' (suc k) e d =
      𝓙.conj-add (dot 𝓝 p q k) (p k ⋆ q k)
      ∙ (λ j. conj-dot p q p' q' k (λ l h. e l (omega arith)) (λ l h. d l (omega arith)) j ⊹ 𝓙.conj-mul (p k) (q k) j)
      ∙ (λ j. dot 𝓝 p' q' k ⊹ e k (omega arith) j ⋆ d k (omega arith) j)

  -- y C x by rows and by columns
  module _ (X Y : ℕ → N) (C : Mat 𝓝) where
    abbrev τ : ℕ → N
    τ a = cond (ltb a 4) (X a) (cond (ltb a 8) (Y (a - 4)) (C ((a - 8) / 4) ((a - 8) % 4)))

    abbrev Exchanged : ℕ → Type 0
    Exchanged w = dot 𝓝 X (λ l. dot 𝓝 (λ m. C m l) Y w) w ≡ dot 𝓝 Y (λ m. dot 𝓝 (C m) X w) w

    exchange-two : Exchanged 2
    unfolding xor dot
    exchange-two = solve 𝓛 τ commuting (obeys-comm 𝓔.laws τ) (by_columns_e 2) (by_rows_e 2) refl

    exchange-four : Exchanged 4
    unfolding xor dot
    exchange-four = solve 𝓛 τ commuting (obeys-comm 𝓔.laws τ) (by_columns_e 4) (by_rows_e 4) refl

    exchange : (modes : ℕ) → (modes ≡ 1) ⊎ (modes ≡ 2) → Exchanged (2 * modes)
    exchange modes (inl e) = subst (λ m. Exchanged (2 * m)) (sym e) exchange-two
    exchange modes (inr e) = subst (λ m. Exchanged (2 * m)) (sym e) exchange-four

  -- (u* c u)* = u* c u
  her-image : (modes : ℕ) → (modes ≡ 1) ⊎ (modes ≡ 2) → (c u : Mat 𝓝) → Hermitian (2 * modes) c → Hermitian (2 * modes) (image 𝓙 (2 * modes) c u)
  her-image modes few c u e r s hr hs =
      conj-dot (λ l. 𝓙.conj (u l r)) (λ l. dot 𝓝 (c l) (λ m. u m s) (2 * modes)) (λ l. u l r)
      (λ l. dot 𝓝 (λ m. c m l) (λ m. 𝓙.conj (u m s)) (2 * modes)) (2 * modes)
      (λ l h. 𝓙.conj-conj (u l r))
      (λ l h. conj-dot (c l) (λ m. u m s) (λ m. c m l) (λ m. 𝓙.conj (u m s)) (2 * modes) (λ m g. e l m h g) (λ m g. refl))
      ∙ exchange (λ l. u l r) (λ m. 𝓙.conj (u m s)) c modes few

  conj-mixed : (modes : ℕ) → (modes ≡ 1) ⊎ (modes ≡ 2) → (q : ℕ → N) (j : ℕ) → j ≤ 2 * modes → (r s : ℕ) → r < 2 * modes → s < 2 * modes
      → 𝓙.conj (mixed 𝓝 i modes q j r s) ≡ mixed 𝓝 i modes (λ b. 𝓙.conj (q b)) j s r
  conj-mixed modes few q zero l r s hr hs = conj-zero
  conj-mixed modes few q (suc j) l r s hr hs =
      𝓙.conj-add (mixed 𝓝 i modes q j r s) (cs modes j r s ⋆ q j)
      ∙ (λ a. conj-mixed modes few q j (omega arith) r s hr hs a
      ⊹ (𝓙.conj-mul (cs modes j r s) (q j) ∙ ap (λ t. t ⋆ 𝓙.conj (q j)) (her-cs modes few j l r s hr hs)) a)

  -- what is left of m without the mixture
  less-mixed : (modes : ℕ) (m : Mat 𝓝) (q : ℕ → N) (j r s : ℕ) → less_sum 𝓝 i modes m q j r s ≡ m r s ⊹ neg (mixed 𝓝 i modes q j r s)
  less-mixed modes m q zero r s = sym (ap (λ a. m r s ⊹ a) (neg-zero 𝓛) ∙ 𝓛.add-zero (m r s))
  less-mixed modes m q (suc j) r s =
      ap (λ a. a ⊹ neg (cs modes j r s ⋆ q j)) (less-mixed modes m q j r s)
      ∙ 𝓛.add-assoc (m r s) (neg (mixed 𝓝 i modes q j r s)) (neg (cs modes j r s ⋆ q j))
      ∙ ap (λ a. m r s ⊹ a) (sym (neg-sum 𝓛 (mixed 𝓝 i modes q j r s) (cs modes j r s ⋆ q j)))

  mixed-same : (modes : ℕ) (q q' : ℕ → N) (j : ℕ) → ((b : ℕ) → b < j → q b ≡ q' b) → (r s : ℕ) → mixed 𝓝 i modes q j r s ≡ mixed 𝓝 i modes q' j r s
  mixed-same modes q q' zero e r s = refl
  mixed-same modes q q' (suc j) e r s = λ a. mixed-same modes q q' j (λ b h. e b (omega arith)) r s a ⊹ cs modes j r s ⋆ e j (omega arith) a

  -- A MIXTURE THAT IS AN IMAGE has real coefficients, and they are the engine's
  module _ (modes : ℕ) (few : (modes ≡ 1) ⊎ (modes ≡ 2)) (u : Mat 𝓝) (a : ℕ) (la : a < 2 * modes) (q : ℕ → N)
      (is : (r s : ℕ) → r < 2 * modes → s < 2 * modes → image 𝓙 (2 * modes) (cs modes a) u r s ≡ mixed 𝓝 i modes q (2 * modes) r s) where
    abbrev w : Mat 𝓝
    w = image 𝓙 (2 * modes) (cs modes a) u

    swapped : (r s : ℕ) → r < 2 * modes → s < 2 * modes → mixed 𝓝 i modes (λ b. 𝓙.conj (q b)) (2 * modes) r s ≡ mixed 𝓝 i modes q (2 * modes) r s
    swapped r s hr hs =
        sym (conj-mixed modes few q (2 * modes) (omega arith) s r hs hr)
        ∙ ap 𝓙.conj (sym (is s r hs hr))
        ∙ her-image modes few (cs modes a) u (her-cs modes few a la) s r hs hr
        ∙ is r s hr hs

    real : (b : ℕ) → b < 2 * modes → 𝓙.conj (q b) ≡ q b
    real b l =
        sym (part-is modes (𝓙.conj (q b)))
        ∙ ap (λ s. s ⋆ part 𝓔 modes) (sym (trace-is modes few (λ d. 𝓙.conj (q d)) b l)
        ∙ trace-same (2 * modes) (cs modes b) (mixed 𝓝 i modes (λ d. 𝓙.conj (q d)) (2 * modes)) (mixed 𝓝 i modes q (2 * modes)) swapped
        (2 * modes) (omega arith)
        ∙ trace-is modes few q b l)
        ∙ part-is modes (q b)

    pub engine's : (b : ℕ) → b < 2 * modes → map_of 𝓔 𝓙 modes u a b ≡ q b
    engine's b l =
        coefficient-is modes (trace 𝓝 (2 * modes) (cs modes b) w (2 * modes)) (q b)
        (trace-same (2 * modes) (cs modes b) w (mixed 𝓝 i modes q (2 * modes)) is (2 * modes) (omega arith) ∙ trace-is modes few q b l) (real b l)

    pub nothing-left : (r s : ℕ) → r < 2 * modes → s < 2 * modes → less_sum 𝓝 i modes w (map_of 𝓔 𝓙 modes u a) (2 * modes) r s ≡ 𝟘
    nothing-left r s hr hs =
        less-mixed modes w (map_of 𝓔 𝓙 modes u a) (2 * modes) r s
        ∙ (λ j. is r s hr hs j ⊹ neg (mixed-same modes (map_of 𝓔 𝓙 modes u a) q (2 * modes) engine's r s j))
        ∙ 𝓛.add-neg (mixed 𝓝 i modes q (2 * modes) r s)
