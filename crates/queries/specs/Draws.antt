-- What a shot turns on: "A shot depends on the state and on its own n draws; altering the others, to numbers that pass 22, leaves it as it was." Assumes
-- nothing. A public promise rests on this.
use Rattle.std.specs.Prelude.{◌≡◌, List, ℕ, ◌+◌, ◌*◌, ◌<◌, get_or, Float}
use Rattle.std.specs.Float.{nan}
use Rattle.queries.specs.Calls.{sample_of, sample_out}

-- two samples of one state, of whatever numbers of shots and with whatever is lent, that are both given: they pass 16, 20 and 21, and their draws 22. Where
-- shot i of the one and shot k of the other have the same n draws, both words of them are the same
abbrev pub OwnDraws : Type 0
OwnDraws = (n : ℕ) (s : List Float) (modes : List ℕ) (shots shots' : ℕ) (draws draws' w w' : List Float) (out out' : List ℕ)
    → (sample_of n s modes shots draws w out).number ≡ 0 → (sample_of n s modes shots' draws' w' out').number ≡ 0
    → (i k : ℕ) → i < shots → k < shots' → ((j : ℕ) → j < n → get_or draws (i * n + j) nan ≡ get_or draws' (k * n + j) nan)
    → (j : ℕ) → j < 2
    → get_or (sample_out n s modes shots draws w out) (2 * i + j) 0 ≡ get_or (sample_out n s modes shots' draws' w' out') (2 * k + j) 0
