-- Laws of the modes left: their matrix, its Pfaffian and the work it leaves; question 20; and marks that are
-- alike give the same probability. Assumes nothing.
use mathlib.Core.Path.{◌≡◌, ap, ◌∙◌}
use mathlib.Core.Bool.{true, false, cond, ◌&&◌}
use mathlib.Core.List.{List}
use Prim.Native.Nat.{ℕ, ◌+◌, ◌*◌, ◌/◌, ◌%◌, ◌≤◌, ◌<◌}
use native.Mathlib.Omega.{arith}
use lib.Dec.{eqb, ltb}
use lib.ListN.{length, get_or}
use lib.Ieee.{Float, binary64, add, sub, mul}
use borrow.Author.Tests.{le-leb, lt-leb}
use Rattle.laws.specs.Zeros.{+0, +1, sg}
use Rattle.laws.specs.Slices.{mapped_to}
use Rattle.laws.specs.Matrix.{Mat, at, matrix, Is}
use Rattle.laws.proofs.Matrix.{is-matrix, matrix-is, is-then, filled_is}
use Rattle.pfaffian.specs.Pfaffian.{pfaffian_of}
use Rattle.pfaffian.specs.Shot.{half}
use Rattle.pfaffian.proofs.Congruent.{pfaffian-same}
use Rattle.queries.specs.Lists.{noted_modes}
use Rattle.queries.specs.Answers.{taken_apart}
use Rattle.queries.specs.Products.{restricted, dim_left}
use Rattle.queries.specs.Marginals.{is_one, half_spin_of, shifted, halved, asked_matrix, sign_of, at_least_zero_of, marked_of}
use Rattle.queries.specs.Calls.{work_ok, cleared, marked_answer, marked_work, worked, worked_work}
use Rattle.queries.proofs.Searches.{odd-same, passing-same, passing-ascends}
use Rattle.queries.proofs.Filling.{mapped-is}

-- ---- the matrix of a marginal: laid, halved and shifted

pub ask-made : (dim : ℕ) (R : Mat) (s : ℕ → Float) (w₀ w₁ w₂ w₃ : List Float) → dim * dim ≤ length w₀ → w₁ ≡ matrix dim R w₀
    → w₂ ≡ mapped_to (mul binary64 half) (dim * dim) w₁ → w₃ ≡ matrix dim (shifted s (at dim w₂)) w₂ → w₃ ≡ matrix dim (shifted s (halved R)) w₀
ask-made dim R s w₀ w₁ w₂ w₃ room e₁ e₂ e₃ =
    is-matrix dim w₀ _ w₃ (is-then dim w₀ w₂ w₃ (halved R) (shifted s (at dim w₂)) (shifted s (halved R)) v₂ v₃ same)
  where
    v₁ : Is dim w₀ R w₁
    v₁ = matrix-is dim w₀ R w₁ room e₁

    room₁ : dim * dim ≤ length w₁
    room₁ = rw v₁.long room

    v₂ : Is dim w₀ (halved R) w₂
    v₂ =
        is-then dim w₀ w₁ w₂ R _ (halved R) v₁ (mapped-is (mul binary64 half) dim w₁ w₂ room₁ e₂)
        (λ r c h g. ap (mul binary64 half) (v₁.each r c h g))

    v₃ : Is dim w₂ (shifted s (at dim w₂)) w₃
    v₃ = matrix-is dim w₂ _ w₃ (rw v₂.long room) e₃

    same : (r c : ℕ) → r < dim → c < dim → shifted s (at dim w₂) r c ≡ shifted s (halved R) r c
    same r c h g =
        let x : at dim w₂ r c ≡ halved R r c = v₂.each r c h g in
        λ t. cond (eqb (r % 2) 0 && eqb c (r + 1)) (add binary64 (x t) (s (r / 2)))
        (cond (eqb (c % 2) 0 && eqb r (c + 1)) (sub binary64 (x t) (s (r / 2))) (x t))

-- ---- the modes left, l, in a list of `count` places

module _ (l : List ℕ) (count : ℕ) (list : List ℕ) (long : length list ≡ count) (same : list ≡ l) where
  dim-same : 2 * count ≡ dim_left l
  dim-same = rw (← long, same)

  -- the Pfaffian of a matrix of theirs that is laid into work, and the work when it is cleared
  module _ (F : List ℕ → Mat) (w₀ w₁ : List Float) (room : 2 * count * (2 * count) ≤ length w₀)
      (e : w₁ ≡ matrix (2 * length list) (F list) w₀) where
    laid : Is (2 * count) w₀ (F l) w₁
    laid = matrix-is (2 * count) w₀ (F l) w₁ room (e ∙ (λ t. matrix (2 * long t) (F (same t)) w₀))

    pub value-left : pfaffian_of (2 * count) (at (2 * count) w₁) ≡ pfaffian_of (dim_left l) (F l)
    value-left =
        pfaffian-same (at (2 * count) w₁) (F l) (2 * count) (λ i j li hi lj hj. laid.each i j hi hj)
        ∙ ap (λ d. pfaffian_of d (F l)) dim-same

    pub work-left : cleared (2 * count) w₁ ≡ cleared (dim_left l) w₀
    work-left = filled_is (2 * count) +0 w₀ w₁ (F l) laid ∙ ap (λ d. cleared d w₀) dim-same

  -- ---- question 20

  pub work-fits : (w : List Float) → 2 * count * (2 * count) ≤ length w → work_ok (dim_left l) w ≡ true
  work-fits w h = le-leb (dim_left l * dim_left l) (length w) (rw dim-same at h)

  pub work-small : (w : List Float) → length w < 2 * count * (2 * count) → work_ok (dim_left l) w ≡ false
  work-small w h = lt-leb (dim_left l * dim_left l) (length w) (rw dim-same at h)

-- ---- marks that are alike

module _ (n : ℕ) (f g : ℕ → ℕ) (h : (k : ℕ) → k < n → f k ≡ g k) where
  modes-alike : noted_modes n f ≡ noted_modes n g
  modes-alike = passing-same _ _ n (λ k b. ap (ltb 0) (h k b))

  pub marked-alike : (e : Mat) → marked_of e n f ≡ marked_of e n g
  unfolding marked_of
  marked-alike e = λ t. taken_apart (λ x. at_least_zero_of (mul binary64 (sign t) x)) (value t)
    where
      l : List ℕ
      l = noted_modes n f

      sign : sign_of n f ≡ sign_of n g
      sign = ap (λ b. sg b +1) (odd-same (λ k. is_one (f k)) (λ k. is_one (g k)) n (λ k b. ap is_one (h k b)))

      entry : (r c : ℕ) → r < dim_left l → asked_matrix e f l r c ≡ asked_matrix e g l r c
      entry r c b =
          let m : f (get_or l (r / 2) 0) ≡ g (get_or l (r / 2) 0) = h _ ((passing-ascends (λ k. ltb 0 (f k)) n).below (r / 2) (omega arith)) in
          let x = halved (restricted e l) r c in
          λ t. cond (eqb (r % 2) 0 && eqb c (r + 1)) (add binary64 x (half_spin_of (m t)))
          (cond (eqb (c % 2) 0 && eqb r (c + 1)) (sub binary64 x (half_spin_of (m t))) x)

      value : pfaffian_of (dim_left l) (asked_matrix e f l) ≡ pfaffian_of (dim_left (noted_modes n g)) (asked_matrix e g (noted_modes n g))
      value =
          pfaffian-same (asked_matrix e f l) (asked_matrix e g l) (dim_left l) (λ i j li hi lj hj. entry i j hi)
          ∙ ap (λ l. pfaffian_of (dim_left l) (asked_matrix e g l)) modes-alike

  pub answer-alike : (e : Mat) (w : List Float) → marked_answer e n f w ≡ marked_answer e n g w
  answer-alike e w = λ t. worked (dim_left (modes-alike t)) (marked-alike e t) w

  pub work-alike : (w : List Float) → marked_work n f w ≡ marked_work n g w
  work-alike w = ap (λ l. worked_work (dim_left l) w) modes-alike
