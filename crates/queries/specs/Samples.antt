-- Samples (001, `sample`): n draws a shot, in mode order; every shot starts again from the covariance; "shots are two words, low first".
-- Definitions only. A public promise rests on this.
use Rattle.std.specs.Prelude.{Bool, cond, not, ◌&&◌, List, ℕ, ◌*◌, ◌/◌, ◌%◌, eqb, leb, ltb, get_or, length, Float}
use Rattle.std.specs.Float.{nan}
use Rattle.std.specs.Float.Ieee.{le, lt}
use Rattle.laws.specs.Views.{list_of}
use Rattle.laws.specs.Zeros.{+0, +1}
use Rattle.laws.specs.Matrix.{Mat}
use Rattle.laws.specs.Tables.{mode_at}
use Rattle.pfaffian.specs.Shot.{draw_from, shot_of}
use Rattle.pfaffian.specs.declared.shots.Words.{Words}
use Rattle.queries.specs.Lists.{first}

-- shots (question 21)
abbrev pub max_shots : ℕ
max_shots = 65536

-- "shots at most 65,536, draws at least n × shots, output at least 2 u64 per shot?" (question 21)
unfoldable pub shots_ok : ℕ → ℕ → List Float → List ℕ → Bool
shots_ok n shots draws out = leb shots max_shots && (leb (n * shots) (length draws) && leb (2 * shots) (length out))

-- at least 0 and below 1: -0.0 is, a NaN is not
abbrev pub draw_ok_of : Float → Bool
draw_ok_of x = le +0 x && lt x +1

-- "is each draw used at least 0 and below 1?" (question 22): the place of the first that is not; `used` if each is
unfoldable pub bad_draw_of : ℕ → List Float → ℕ
bad_draw_of used draws = first (λ i. not (draw_ok_of (get_or draws i nan))) used

-- shot i, by the draws from i * n on
abbrev pub shot_at : Mat → ℕ → List ℕ → List Float → ℕ → Words
shot_at e n modes draws i = shot_of e n (draw_from draws (i * n)) (mode_at modes)

-- word 0 or 1 of a shot
abbrev pub word_at : Words → ℕ → ℕ
word_at w j = cond (eqb j 0) w.low w.high

-- the output with the words of the shots in front; the rest is as it was
unfoldable pub sampled : Mat → ℕ → List ℕ → ℕ → List Float → List ℕ → List ℕ
sampled e n modes shots draws out =
    list_of (length out) (λ j. cond (ltb j (2 * shots)) (word_at (shot_at e n modes draws (j / 2)) (j % 2)) (get_or out j 0))
