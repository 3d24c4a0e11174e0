-- Room for text behind text. Definitions only. A public promise rests on this.
use Rattle.std.specs.Prelude.{◌≡◌, List, ℕ, ◌+◌, ◌≤◌, length, take}
use Rattle.text.specs.Bounds.{max_text}

-- there is room for ys behind xs
abbrev pub Room : List ℕ → List ℕ → Type 0
Room xs ys = length xs + length ys ≤ max_text

-- r bytes are a first part of xs. The second fact follows from the first; both are stated so that a caller can lend `&xs[..r]`
-- without a proof of its own
abbrev pub Counts : ℕ → List ℕ → Type 0
Counts r xs = (r ≤ length xs) × (r ≡ length (take r xs))
