-- The mode table: entry q is the mode of qubit q. "The mode table's first n a permutation" (question 16). Definitions only. A public promise rests on this.
use Rattle.std.specs.Prelude.{ℕ, ◌-◌, Bool, not, ◌&&◌, List, length, ◌==◌, nat_eq, nat_le, nat_lt}
use Rattle.laws.specs.Views.{seek}
use Rattle.laws.specs.Tests.{all_below}
use Rattle.laws.specs.Tables.{mode_at}

-- no qubit before q has mode k
abbrev pub unused : List ℕ → ℕ → ℕ → Bool
unused l q k = all_below (λ p. not (mode_at l p == k)) q

-- the mode of qubit q is below n, and of no qubit before q
abbrev pub mode_ok : ℕ → List ℕ → ℕ → Bool
mode_ok n l q = nat_lt (mode_at l q) n && unused l q (mode_at l q)

-- the first n entries are a permutation of 0, 1, .., n - 1: there are n, each is below n, and no two are equal
unfoldable pub is_permutation : ℕ → List ℕ → Bool
is_permutation n l = nat_le n (length l) && all_below (mode_ok n l) n

-- the qubit of mode k
abbrev pub qubit_at : ℕ → List ℕ → ℕ → ℕ
qubit_at n l k = seek (λ q. nat_eq (mode_at l q) k) n - 1
