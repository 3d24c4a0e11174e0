-- A sample of a basis state: every shot has the register's bits, whatever the draws, and so the words of the output are the register's. The modes are
-- measured one after the other, each with its bit for outcome; the table carries them over to the qubits. Assumes nothing.
use mathlib.Core.Path.{◌≡◌, refl, sym, ap, ◌∙◌, subst}
use mathlib.Core.Logic.{◌⊎◌, inl, inr}
use mathlib.Core.Bool.{Bool, true, not, cond, ◌&&◌}
use mathlib.Core.List.{List}
use Prim.Native.Nat.{ℕ, zero, suc, ◌+◌, ◌*◌, ◌/◌, ◌%◌, ◌≤◌, ◌<◌}
use native.Mathlib.Nat.{le_refl}
use native.Mathlib.Omega.{arith}
use lib.Dec.{eqb, ltb}
use lib.ListN.{get_or, length}
use lib.Ieee.{Float, nan}
use borrow.Author.Tests.{lt-ltb, le-ltb, ltb-false, not-false}
use Rattle.laws.specs.Zeros.{+0}
use Rattle.laws.specs.Matrix.{Mat}
use Rattle.laws.specs.Tables.{mode_at}
use Rattle.std.proofs.lemmas.Bool.{cases_lt}
use Rattle.laws.proofs.Views.{up_same}
use Rattle.monomial.specs.Basis.{IsBasis}
use Rattle.pfaffian.specs.Shot.{draw_from, qubit_bit, word_of, shot, after_mode, reached, outcome}
use Rattle.pfaffian.proofs.Listing.{shot-at, word_same}
use Rattle.state.specs.Bounds.{dim_of}
use Rattle.state.specs.Answers.{accepted}
use Rattle.state.proofs.Permutations.{mode-below}
use Rattle.queries.specs.Basis.{word_bits}
use Rattle.queries.specs.Samples.{draw_ok_of, bad_draw_of, shot_at, word_at, sampled}
use Rattle.queries.specs.Calls.{covariance_of, shots_of, shots_out, sample_of, sample_out}
use Rattle.queries.proofs.Sampling.{draws-fit}
use Rattle.queries.proofs.Draws.{sample-passed}
use Rattle.basis.specs.Holds.{Reads}
use Rattle.basis.specs.Answers.{shot_bit, register_low, register_high, register_shots}
use Rattle.queries.proofs.First.{none_passes}
use Rattle.basis.proofs.Measured.{drawn-is, next-keeps}

-- ---- one shot

module _ (n : ℕ) (b : ℕ → Bool) (e : Mat) (t : ℕ → Float) (E : IsBasis (dim_of n) b e) (ok : (k : ℕ) → k < n → draw_ok_of (t k) ≡ true) where
  reached-is : (k : ℕ) → k ≤ n → IsBasis (dim_of n) b (reached e t k)
  unfolding reached
  reached-is zero h = E
  reached-is (suc k) h =
      let m = reached e t k in
      let M = reached-is k (omega arith) in
      let room : 2 * k + 1 < dim_of n = omega arith in
      subst (λ (one : Bool). IsBasis (dim_of n) b (after_mode m k one)) (sym (drawn-is (dim_of n) k b m room M (t k) (ok k h)))
      (next-keeps (dim_of n) k b m room M)

  outcome-is : (k : ℕ) → k < n → outcome e t k ≡ b k
  outcome-is k h = drawn-is (dim_of n) k b (reached e t k) (omega arith) (reached-is k (omega arith)) (t k) (ok k h)

module _ (n : ℕ) (b r : ℕ → Bool) (e : Mat) (modes : List ℕ) (R : Reads n b r e modes) where
  module _ (t : ℕ → Float) (ok : (k : ℕ) → k < n → draw_ok_of (t k) ≡ true) where
    bit_is : (q : ℕ) → qubit_bit (mode_at modes) n (shot e 0 n t) q ≡ shot_bit n r q
    bit_is q = by (cases_lt q n)
      where
        by : (q < n) ⊎ (n ≤ q) → qubit_bit (mode_at modes) n (shot e 0 n t) q ≡ shot_bit n r q
        by (inl h) =
            let below = mode-below n modes R.table q h in
            ap (λ (x : Bool). ltb q n && x)
            (shot-at e t n (mode_at modes q) below ∙ outcome-is n b e t R.covariance ok (mode_at modes q) below ∙ R.bits q h)
        by (inr h) = rw (le-ltb q n h)

  -- ---- all shots

  module _ (shots : ℕ) (draws : List Float) (pass : n * shots ≤ bad_draw_of (n * shots) draws) where
    draw-ok : (i k : ℕ) → i < shots → k < n → draw_ok_of (draw_from draws (i * n) k) ≡ true
    unfolding bad_draw_of
    draw-ok i k h g =
        let room = draws-fit n shots i (n * shots) h (le_refl (n * shots)) in
        not-false (draw_ok_of (get_or draws (i * n + k) nan))
        (none_passes (λ j. not (draw_ok_of (get_or draws j nan))) (n * shots) (omega arith) (i * n + k) (omega arith))

    shot-is : (i j : ℕ) → i < shots → word_at (shot_at e n modes draws i) j ≡ cond (eqb j 0) (register_low n r) (register_high n r)
    shot-is i j h = λ u. cond (eqb j 0) (word 0 u) (word word_bits u)
      where
        bits : ℕ → Bool
        bits = qubit_bit (mode_at modes) n (shot e 0 n (draw_from draws (i * n)))

        word : (q : ℕ) → word_of bits q word_bits ≡ word_of (shot_bit n r) q word_bits
        word q = word_same bits (shot_bit n r) (bit_is (draw_from draws (i * n)) (λ k g. draw-ok i k h g)) q word_bits

    sampled-is : (out : List ℕ) → sampled e n modes shots draws out ≡ register_shots n r shots out
    unfolding sampled register_shots
    sampled-is out = up_same {A = ℕ} _ _ 0 (length out) (λ j _ _. by j (cases_lt j (2 * shots)))
      where
        by : (j : ℕ) → (j < 2 * shots) ⊎ (2 * shots ≤ j)
            → cond (ltb j (2 * shots)) (word_at (shot_at e n modes draws (j / 2)) (j % 2)) (get_or out j 0)
            ≡ cond (ltb j (2 * shots)) (cond (eqb (j % 2) 0) (register_low n r) (register_high n r)) (get_or out j 0)
        by j (inl h) = rw (lt-ltb j (2 * shots) h) (shot-is (j / 2) (j % 2) (omega arith))
        by j (inr h) = rw (le-ltb j (2 * shots) h)

-- ---- the call: a sample that meets no question answered by no, in which every shot has the register's bits

pub sample-told : (n : ℕ) (b r : ℕ → Bool) (s : List Float) (modes : List ℕ) → Reads n b r (covariance_of n s) modes
    → (shots : ℕ) (draws w : List Float) (out : List ℕ) → (sample_of n s modes shots draws w out).number ≡ 0
    → (sample_of n s modes shots draws w out ≡ accepted +0) × (sample_out n s modes shots draws w out ≡ register_shots n r shots out)
unfolding sample_of sample_out shots_of shots_out
sample-told n b r s modes R shots draws w out given =
    let g = sample-passed n s modes shots draws w out given in (
      rw (g.state, g.work, g.room, g.drawn) refl,
      rw (g.state, g.work, g.room, g.drawn)
          (sampled-is n b r (covariance_of n s) modes R shots draws (ltb-false (bad_draw_of (n * shots) draws) (n * shots) g.drawn) out),
    )
