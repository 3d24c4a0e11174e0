-- Laws of a sample: where a shot's draws are, that a shot from a copy of the covariance is the covariance's, and the words written so far.
-- Assumes nothing.
use mathlib.Core.Path.{◌≡◌, refl, sym, ap, ◌∙◌}
use mathlib.Core.Logic.{◌⊎◌, inl, inr, ◌≢◌}
use mathlib.Core.List.{List}
use Prim.Native.Nat.{ℕ, suc, ◌+◌, ◌*◌, ◌/◌, ◌%◌, ◌≤◌, ◌<◌}
use native.Mathlib.Nat.{not-suc-le-zero, suc-mul, mul_comm, mul-le-mul_left, mul-le-mul_right, le_trans}
use native.Mathlib.Numerals.{add-one}
use native.Mathlib.Omega.{arith}
use Rattle.std.proofs.lemmas.List.{length-take-le, get_or-take}
use Rattle.queries.proofs.Searches.{first-same}
use mathlib.Core.Bool.{not}
use lib.ListN.{length, take, get_or, set, length-set}
use lib.Seq.{ext_get_or, get_or-set_same, get_or-set_other}
use lib.Ieee.{Float, nan}
use borrow.Author.Tests.{eq-eqb, ne_eqb, lt-ltb, le-ltb}
use Rattle.laws.specs.Matrix.{Mat, at, matrix}
use Rattle.laws.specs.Tables.{mode_at}
use Rattle.laws.specs.Bounds.{max_qubits}
use Rattle.std.proofs.lemmas.Bool.{cases_lt, cases_eq}
use Rattle.laws.proofs.Views.{length-list_of, get_or-list_of}
use Rattle.laws.proofs.Matrix.{matrix-is}
use Rattle.pfaffian.specs.Shot.{draw_from, shot_of}
use Rattle.pfaffian.specs.declared.shots.Words.{Words}
use Rattle.pfaffian.proofs.SameShots.{shot-same}
use Rattle.queries.specs.Samples.{max_shots, draw_ok_of, bad_draw_of, shot_at, word_at, sampled}

-- ---- the draws

-- shot i has its n draws
pub draws-fit : (n shots i m : ℕ) → i < shots → n * shots ≤ m → i * n + n ≤ m
draws-fit n shots i m h room = omega (arith, suc-mul i n, mul-le-mul_right {m = suc i} n h, mul_comm shots n)

pub next-draws : (n i : ℕ) → i * n + n ≡ (i + 1) * n
next-draws n i = rw (add-one i) (sym (suc-mul i n))

pub used-few : (n shots : ℕ) → n ≤ max_qubits → shots ≤ max_shots → n * shots ≤ max_qubits * max_shots
used-few n shots h g = le_trans (mul-le-mul_right {m = n} shots h) (mul-le-mul_left {m = shots} max_qubits g)

-- the draws used, as a part of the slice
pub used-draws : (used : ℕ) (draws : List Float) → used ≤ length draws → bad_draw_of (length (take used draws)) (take used draws) ≡ bad_draw_of used draws
unfolding bad_draw_of
used-draws used draws h =
    rw (length-take-le used draws h)
    (first-same _ _ used (λ k g. ap (λ x. not (draw_ok_of x)) (get_or-take used draws k nan g)))

-- ---- a shot from the copy

pub shot-copied : (e : Mat) (n : ℕ) (modes : List ℕ) (draws : List Float) (i first : ℕ) (w₀ w₁ : List Float) → 2 * n * (2 * n) ≤ length w₀
    → w₁ ≡ matrix (2 * n) e w₀ → first ≡ i * n → shot_of (at (2 * n) w₁) n (draw_from draws first) (mode_at modes) ≡ shot_at e n modes draws i
shot-copied e n modes draws i first w₀ w₁ room c f =
    let v = matrix-is (2 * n) w₀ e w₁ room c in
    shot-same (at (2 * n) w₁) e n (draw_from draws first) (mode_at modes) (λ r c li hi lj hj. v.each r c hi hj)
    ∙ ap (λ k. shot_of e n (draw_from draws k) (mode_at modes)) f

-- ---- the words: W i is shot i

module _ (W : ℕ → Words) where
  -- word j of the output
  abbrev out_word : ℕ → ℕ
  out_word j = word_at (W (j / 2)) (j % 2)

  -- those of i shots are written
  pub record Written (i : ℕ) (out₀ out : List ℕ) : Type 0 where
    pub long : length out ≡ length out₀
    pub done : (j : ℕ) → j < 2 * i → get_or out j 0 ≡ out_word j
    pub left : (j : ℕ) → 2 * i ≤ j → get_or out j 0 ≡ get_or out₀ j 0

  pub written_none : (out : List ℕ) → Written 0 out out
  written_none out = record { long = refl; done = λ j h. absurd (not-suc-le-zero h); left = λ j h. refl }

  low_word : (i : ℕ) → out_word (2 * i) ≡ (W i).low
  low_word i =
      let q : 2 * i / 2 ≡ i = omega arith in
      let z : 2 * i % 2 ≡ 0 = omega arith in
      rw (q, eq-eqb (2 * i % 2) 0 z)

  high_word : (i : ℕ) → out_word (2 * i + 1) ≡ (W i).high
  high_word i =
      let q : (2 * i + 1) / 2 ≡ i = omega arith in
      let z : (2 * i + 1) % 2 ≢ 0 = λ e. omega arith in
      rw (q, ne_eqb ((2 * i + 1) % 2) 0 z)

  pub written-more : (i : ℕ) (out₀ out : List ℕ) (w : Words) → 2 * i + 1 < length out → w ≡ W i → Written i out₀ out
      → Written (i + 1) out₀ (set (set out (2 * i) w.low) (2 * i + 1) w.high)
  written-more i out₀ out w room e v = record {
    long = length-set (set out (2 * i) w.low) (2 * i + 1) w.high ∙ l₁ ∙ v.long;
    done = λ j h. done j h (cases_eq j (2 * i)) (cases_eq j (2 * i + 1));
    left = λ j h. away j (λ q. omega arith) (λ q. omega arith) ∙ v.left j (omega arith);
  }
    where
      out₁ : List ℕ
      out₁ = set out (2 * i) w.low

      l₁ : length out₁ ≡ length out
      l₁ = length-set out (2 * i) w.low

      away : (j : ℕ) → j ≢ 2 * i → j ≢ 2 * i + 1 → get_or (set out₁ (2 * i + 1) w.high) j 0 ≡ get_or out j 0
      away j p q = get_or-set_other out₁ (2 * i + 1) j w.high 0 q ∙ get_or-set_other out (2 * i) j w.low 0 p

      done : (j : ℕ) → j < 2 * (i + 1) → (j ≡ 2 * i) ⊎ (j ≢ 2 * i) → (j ≡ 2 * i + 1) ⊎ (j ≢ 2 * i + 1)
          → get_or (set out₁ (2 * i + 1) w.high) j 0 ≡ out_word j
      done j h (inl p) _ =
          get_or-set_other out₁ (2 * i + 1) j w.high 0 (λ q. omega arith)
          ∙ ap (λ k. get_or out₁ k 0) p
          ∙ get_or-set_same out (2 * i) w.low 0 (omega arith)
          ∙ ap (λ w. w.low) e
          ∙ sym (low_word i)
          ∙ ap out_word (sym p)
      done j h (inr p) (inl q) =
          ap (λ k. get_or (set out₁ (2 * i + 1) w.high) k 0) q
          ∙ get_or-set_same out₁ (2 * i + 1) w.high 0 (rw l₁ room)
          ∙ ap (λ w. w.high) e
          ∙ sym (high_word i)
          ∙ ap out_word (sym q)
      done j h (inr p) (inr q) = away j p q ∙ v.done j (omega arith)

pub written_all : (e : Mat) (n : ℕ) (modes : List ℕ) (shots : ℕ) (draws : List Float) (i : ℕ) (out₀ out : List ℕ) → i ≤ shots → shots ≤ i
    → Written (shot_at e n modes draws) i out₀ out → out ≡ sampled e n modes shots draws out₀
unfolding sampled
written_all e n modes shots draws i out₀ out h g v =
    ext_get_or 0 out (sampled e n modes shots draws out₀) (v.long ∙ sym (length-list_of _ _)) (λ j b. one j (rw v.long at b)
    (cases_lt j (2 * shots)))
  where
    one : (j : ℕ) → j < length out₀ → (j < 2 * shots) ⊎ (2 * shots ≤ j) → get_or out j 0 ≡ get_or (sampled e n modes shots draws out₀) j 0
    one j b (inl k) = rw (get_or-list_of {A = ℕ} _ _ j 0 b, lt-ltb j (2 * shots) k) (v.done j (omega arith))
    one j b (inr k) = rw (get_or-list_of {A = ℕ} _ _ j 0 b, le-ltb j (2 * shots) k) (v.left j (omega arith))
