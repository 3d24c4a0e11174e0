-- The probability that modes read their bits (001, `marginal_probability`): 0.5 · m, with 0.5 added and taken away in each mode's pair of entries;
-- the Pfaffian with the sign of the bits' parity, and the row where it stopped; never below zero. What is asked of a mode is its mark: 0 nothing, else one
-- more than the bit.
-- Definitions only. A public promise rests on this.
use Rattle.std.specs.Prelude.{Bool, cond, ◌&&◌, List, ℕ, ◌+◌, ◌/◌, ◌%◌, eqb, get_or, Float}
use Rattle.std.specs.Float.{binary64}
use Rattle.std.specs.Float.Ieee.{add, sub, mul, lt}
use Rattle.laws.specs.Zeros.{+0, +1, sg}
use Rattle.laws.specs.Matrix.{Mat}
use Rattle.pfaffian.specs.Pfaffian.{pfaffian_of}
use Rattle.pfaffian.specs.Shot.{half}
use Rattle.queries.specs.Lists.{oddly, noted_modes}
use Rattle.queries.specs.Products.{restricted, dim_left}
use Rattle.queries.specs.Answers.{Number, taken_apart}

-- the mark of a mode that is asked for a one
abbrev pub is_one : ℕ → Bool
is_one mark = eqb mark 2

-- `s`: -0.5 for a one, else 0.5
abbrev pub half_spin_of : ℕ → Float
half_spin_of mark = sg (is_one mark) half

-- a[2j][2j + 1] += s, a[2j + 1][2j] -= s, for each pair j
abbrev pub shifted : (ℕ → Float) → Mat → Mat
shifted s a r c =
    cond (eqb (r % 2) 0 && eqb c (r + 1)) (add binary64 (a r c) (s (r / 2)))
    (cond (eqb (c % 2) 0 && eqb r (c + 1)) (sub binary64 (a r c) (s (r / 2))) (a r c))

-- every entry times 0.5
abbrev pub halved : Mat → Mat
halved a r c = mul binary64 half (a r c)

-- the matrix of the modes l
abbrev pub asked_matrix : Mat → (ℕ → ℕ) → List ℕ → Mat
asked_matrix e mark l = shifted (λ j. half_spin_of (mark (get_or l j 0))) (halved (restricted e l))

-- `sign`: -1.0 if the ones are odd in number, else 1.0
abbrev pub sign_of : ℕ → (ℕ → ℕ) → Float
sign_of n mark = sg (oddly (λ k. is_one (mark k)) n) +1

-- `max(0.0)`: "a zero marginal is +0.0; NaN becomes 0.0 there"
abbrev pub at_least_zero_of : Float → Float
at_least_zero_of x = cond (lt +0 x) x +0

unfoldable pub marked_of : Mat → ℕ → (ℕ → ℕ) → Number
marked_of e n mark =
    let l = noted_modes n mark in
    taken_apart (λ x. at_least_zero_of (mul binary64 (sign_of n mark) x)) (pfaffian_of (dim_left l) (asked_matrix e mark l))
