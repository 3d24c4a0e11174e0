-- The register's answers, by computing, where the bits 1 and 65 of 66 qubits are set: what "each qubit counted as often as it stands there", "a listed
-- qubit below n" and "zeros elsewhere" mean. Assumes nothing.
use mathlib.Core.Path.{◌≡◌, refl}
use mathlib.Core.Bool.{Bool, ◌||◌}
use mathlib.Core.List.{[], ◌∷◌}
use Prim.Native.Nat.{ℕ}
use lib.Dec.{eqb}
use lib.Ieee.{neg}
use Rattle.laws.specs.Zeros.{+0, +1}
use Rattle.pfaffian.specs.Shot.{word_of}
use Rattle.queries.specs.Basis.{basis_bit_of}
use Rattle.basis.specs.Answers.{odd_ones, register_product, differs, register_marginal, differs_from, register_probability, register_low, register_high}

abbrev bits : ℕ → Bool
bits q = eqb q 1 || eqb q 65

products : (register_product bits [] ≡ +1) × (register_product bits (1 ∷ 2 ∷ []) ≡ neg +1) × (register_product bits (1 ∷ 1 ∷ []) ≡ +1)
unfolding odd_ones
products = (refl, refl, refl)

-- qubit 66 is not below n; what is asked of it does not count
marginals : (register_marginal 66 bits (1 ∷ 0 ∷ []) (1 ∷ 0 ∷ []) ≡ +1)
    × (register_marginal 66 bits (0 ∷ 0 ∷ []) (0 ∷ 1 ∷ []) ≡ +0)
    × (register_marginal 66 bits (66 ∷ []) (1 ∷ []) ≡ +1)
unfolding differs
marginals = (refl, refl, refl)

-- bit q of the index for qubit q, and no bit from n upward
indices : (register_probability 66 bits 2 2 ≡ +1) × (register_probability 66 bits 2 6 ≡ +1) × (register_probability 66 bits 3 2 ≡ +0)
unfolding differs_from basis_bit_of
indices = (refl, refl, refl)

shots : (register_low 66 bits ≡ 2) × (register_high 66 bits ≡ 2) × (register_high 65 bits ≡ 0)
unfolding word_of
shots = (refl, refl, refl)
