-- A sample that is given: its four questions passed, and its words are those of its shots; so a shot depends on the state and on its own n draws
-- (specs/Draws.antt). Assumes nothing.
use Rattle.std.proofs.lemmas.Bool.{and_parts}
use mathlib.Core.Path.{◌≡◌, refl, sym, ap, ◌∙◌}
use mathlib.Core.Bool.{Bool, true, false, cond, ◌&&◌}
use mathlib.Core.List.{List}
use Prim.Native.Nat.{ℕ, ◌+◌, ◌*◌, ◌/◌, ◌%◌, ◌≤◌, ◌<◌}
use native.Mathlib.Omega.{arith}
use lib.Dec.{leb, ltb}
use lib.ListN.{get_or, length}
use lib.Ieee.{Float, nan}
use borrow.Author.Tests.{leb-true, lt-ltb}
use Rattle.laws.specs.Zeros.{+0}
use Rattle.laws.specs.Matrix.{Mat}
use Rattle.laws.specs.Tables.{mode_at}
use Rattle.laws.proofs.Views.{get_or-list_of}
use Rattle.state.specs.Bounds.{dim_of}
use Rattle.state.specs.Questions.{state_ok}
use Rattle.state.specs.Answers.{accepted, refused}
use Rattle.pfaffian.specs.Shot.{draw_from, qubit_bit, word_of}
use Rattle.pfaffian.proofs.SameShots.{shot-draws}
use Rattle.queries.specs.Samples.{max_shots, shots_ok, bad_draw_of, shot_at, word_at, sampled}
use Rattle.queries.specs.Calls.{covariance_of, work_ok, shots_of, shots_out, sample_of, sample_out}
use Rattle.queries.specs.Draws.{OwnDraws}

-- ---- shots with the same draws

shot_same : (e : Mat) (n : ℕ) (modes : List ℕ) (draws draws' : List Float) (i k : ℕ)
    → ((j : ℕ) → j < n → get_or draws (i * n + j) nan ≡ get_or draws' (k * n + j) nan) → shot_at e n modes draws i ≡ shot_at e n modes draws' k
shot_same e n modes draws draws' i k h =
    ap (λ (l : List Bool). record { low = word_of (qubit_bit (mode_at modes) n l) 0 64; high = word_of (qubit_bit (mode_at modes) n l) 64 64 })
    (shot-draws n 0 e (draw_from draws (i * n)) (draw_from draws' (k * n)) (λ j a b. h j (omega arith)))

-- ---- a sample that is given

module _ (n : ℕ) (s : List Float) (modes : List ℕ) (shots : ℕ) (draws w : List Float) (out : List ℕ) where
  -- 16, 20, 21 and 22
  pub record Passed : Type 0 where
    pub state : state_ok n s modes ≡ true
    pub work : work_ok (dim_of n) w ≡ true
    pub room : shots_ok n shots draws out ≡ true
    pub drawn : ltb (bad_draw_of (n * shots) draws) (n * shots) ≡ false

  module _ (given : (sample_of n s modes shots draws w out).number ≡ 0) where
    pub sample-passed : Passed
    unfolding sample_of shots_of
    sample-passed = by (state_ok n s modes) (work_ok (dim_of n) w) (shots_ok n shots draws out) (ltb place (n * shots)) refl refl refl refl given
      where
        place : ℕ
        place = bad_draw_of (n * shots) draws

        by : (a b c d : Bool) → state_ok n s modes ≡ a → work_ok (dim_of n) w ≡ b → shots_ok n shots draws out ≡ c → ltb place (n * shots) ≡ d
            → (cond a (cond b (cond c (cond d (refused 22 place) (accepted +0)) (refused 21 0)) (refused 20 0)) (refused 16 0)).number ≡ 0 → Passed
        by true true true false p q r t e = record { state = p; work = q; room = r; drawn = t }
        by true true true true p q r t e = absurd (omega (arith, e))
        by true true false d p q r t e = absurd (omega (arith, e))
        by true false c d p q r t e = absurd (omega (arith, e))
        by false b c d p q r t e = absurd (omega (arith, e))

    pub words-are : (i j : ℕ) → i < shots → j < 2
        → get_or (sample_out n s modes shots draws w out) (2 * i + j) 0 ≡ word_at (shot_at (covariance_of n s) n modes draws i) j
    unfolding sample_out shots_out sampled shots_ok
    words-are i j l b =
        let passed = sample-passed in
        let few = leb shots max_shots in
        let enough = leb (n * shots) (length draws) in
        let room = leb (2 * shots) (length out) in
        let long : 2 * shots ≤ length out = leb-true (2 * shots) (length out) (and_parts enough room (and_parts few (enough && room) passed.room).1).1 in
        rw (passed.state, passed.work, passed.room, passed.drawn)
        (get_or-list_of (length out) _ (2 * i + j) 0 (omega arith)
        ∙ rw (lt-ltb (2 * i + j) (2 * shots) (omega arith))
        (λ t. word_at (shot_at (covariance_of n s) n modes draws (half i j b t)) (rest i j b t)))
      where
        half : (i j : ℕ) → j < 2 → (2 * i + j) / 2 ≡ i
        half i j b = omega arith

        rest : (i j : ℕ) → j < 2 → (2 * i + j) % 2 ≡ j
        rest i j b = omega arith

-- ---- the promise

pub own-draws : OwnDraws
own-draws n s modes shots shots' draws draws' w w' out out' given given' i k l l' h j b =
    words-are n s modes shots draws w out given i j l b
    ∙ ap (λ x. word_at x j) (shot_same (covariance_of n s) n modes draws draws' i k h)
    ∙ sym (words-are n s modes shots' draws' w' out' given' k j l' b)
