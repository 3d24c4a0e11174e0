-- Worked values: a table that is a permutation and some that are not. By computation. Assumes nothing.
use Rattle.std.proofs.Common.{◌≡◌, true, false, [], ◌∷◌, refl}
use Rattle.laws.specs.Tests.{all_below}
use Rattle.laws.specs.Views.{seek}
use Rattle.state.specs.Modes.{is_permutation, qubit_at}

table : is_permutation 3 (2 ∷ 0 ∷ 1 ∷ 7 ∷ []) ≡ true
unfolding is_permutation all_below
table = refl

found : qubit_at 3 (2 ∷ 0 ∷ 1 ∷ []) 2 ≡ 0
unfolding seek
found = refl

twice : is_permutation 3 (2 ∷ 0 ∷ 2 ∷ []) ≡ false
unfolding is_permutation all_below
twice = refl

too_large : is_permutation 2 (2 ∷ 0 ∷ []) ≡ false
unfolding is_permutation all_below
too_large = refl

too_short : is_permutation 3 (2 ∷ 0 ∷ []) ≡ false
unfolding is_permutation all_below
too_short = refl
