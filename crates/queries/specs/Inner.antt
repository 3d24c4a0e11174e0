-- What the inner functions ask and give: marks of modes, a list of modes, a matrix in work. Definitions only. Only inner functions rest on this.
use Rattle.std.specs.Prelude.{◌≡◌, Bool, true, false, not, cond, Option, Some, None, List, [], ◌∷◌, suc, ℕ, ◌+◌, ◌*◌, ◌≤◌, ◌<◌, get_or, length, set, Float}
use Rattle.std.specs.Float.{binary64}
use Rattle.std.specs.Float.Ieee.{add, sub}
use Rattle.laws.specs.Matrix.{Mat, at, matrix}
use Rattle.laws.specs.Steps.{Mask, masked, in_row}
use Rattle.pfaffian.specs.Shot.{bit}
use Rattle.queries.specs.Marginals.{half_spin_of, shifted}
use Rattle.queries.specs.declared.lists.Span.{Span}
use Rattle.queries.specs.declared.lists.Noted.{Noted}
use Rattle.queries.specs.declared.lists.Noted.TheVariants.{Agreeing, Contradictory}

-- what is noted of the modes below n, as `read` says it, is f; d is noted past the end
pub record Marked {A B : Type 0} (d : A) (read : A → B) (n : ℕ) (f : ℕ → B) (marks : List A) : Type 0 where
  pub long : n ≤ length marks
  pub each : (k : ℕ) → k < n → read (get_or marks k d) ≡ f k

-- of a product: whether its list has a mode an odd number of times
abbrev pub Odd : ℕ → (ℕ → Bool) → List Bool → Type 0
Odd n f odd = Marked false (λ b. b) n f odd

-- the modes below n that pass are among those from low up to end
pub record Spans (n : ℕ) (p : ℕ → Bool) (among : Span) : Type 0 where
  pub low : among.low ≤ n
  pub end : among.end ≤ n
  pub before : (k : ℕ) → k < among.low → p k ≡ false
  pub after : (k : ℕ) → among.end ≤ k → k < n → p k ≡ false

-- of a marginal: the bit that a mode is asked for; as its mark 0 if there is none, else one more than the bit
abbrev pub mark_of : Option Bool → ℕ
mark_of None = 0
mark_of (Some b) = suc (bit b)

abbrev pub mark_at : List (Option Bool) → ℕ → ℕ
mark_at asked k = mark_of (get_or asked k None)

abbrev pub Asked : ℕ → (ℕ → ℕ) → List (Option Bool) → Type 0
Asked n f asked = Marked None mark_of n f asked

-- what a list says as a whole, by the place where it stops
abbrev pub Says : ℕ → List ℕ → ℕ → Noted → Type 0
Says n qs place Agreeing = place ≡ length qs
Says n qs place Contradictory = (place < length qs) × (get_or qs place 0 < n)

-- the modes of the list are below n
abbrev pub Below : ℕ → List ℕ → Type 0
Below n list = (j : ℕ) → j < length list → get_or list j 0 < n

-- those of a list that pass are odd in number
unfoldable pub odd_among : (ℕ → Bool) → List ℕ → Bool
odd_among p [] = false
odd_among p (k ∷ ks) = cond (p k) (not (odd_among p ks)) (odd_among p ks)

-- every entry
abbrev pub everywhere : Mask
everywhere r c = true

-- ---- what they make of work

-- row r of the matrix is new
abbrev pub row_laid : ℕ → ℕ → Mat → List Float → List Float
row_laid dim r new w = matrix dim (masked (in_row r everywhere) new (at dim w)) w

-- s is added to the entry (a, a + 1), and taken away from (a + 1, a)
abbrev pub pair_shifted : ℕ → ℕ → Float → List Float → List Float
pair_shifted dim a s w =
    set (set w (a * dim + (a + 1)) (add binary64 (at dim w a (a + 1)) s)) ((a + 1) * dim + a) (sub binary64 (at dim w (a + 1) a) s)

-- every pair is, by the mark of its mode
abbrev pub pairs_shifted : ℕ → List (Option Bool) → List ℕ → List Float → List Float
pairs_shifted dim asked list w = matrix dim (shifted (λ j. half_spin_of (mark_at asked (get_or list j 0))) (at dim w)) w
