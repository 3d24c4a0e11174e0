-- What the bit register answers "from its last bits and what a query asks" (document 01, "The bit register"). It refuses nothing: "it stands beside
-- accepted runs only". Assumes nothing. A public promise rests on this.
use Rattle.std.specs.Prelude.{Bool, false, not, cond, ◌&&◌, ◌||◌, List, [], ◌∷◌, ℕ, zero, suc, ◌*◌, ◌%◌, eqb, ltb, get_or, length, Float}
use Rattle.laws.specs.Views.{list_of}
use Rattle.laws.specs.Zeros.{+0, +1, sg}
use Rattle.monomial.specs.Monomial.{flip}
use Rattle.pfaffian.specs.Shot.{bit, word_of}
use Rattle.queries.specs.Basis.{word_bits, basis_bit_of}

-- ---- Z products

-- an odd number of ones is listed, "each qubit counted as often as it stands there"
unfoldable pub odd_ones : (ℕ → Bool) → List ℕ → Bool
odd_ones bits [] = false
odd_ones bits (q ∷ qs) = flip (bits q) (odd_ones bits qs)

-- "-1.0 if an odd number of ones is listed .., otherwise 1.0"
abbrev pub register_product : (ℕ → Bool) → List ℕ → Float
register_product bits qs = sg (odd_ones bits qs) +1

-- ---- marginals

-- "a listed qubit below n has another bit than the one asked"
unfoldable pub differs : ℕ → (ℕ → Bool) → List ℕ → List ℕ → Bool
differs n bits [] xs = false
differs n bits (q ∷ qs) [] = false
differs n bits (q ∷ qs) (x ∷ xs) = (ltb q n && not (eqb (bit (bits q)) x)) || differs n bits qs xs

-- "0.0 if .., otherwise 1.0"
abbrev pub register_marginal : ℕ → (ℕ → Bool) → List ℕ → List ℕ → Float
register_marginal n bits qs xs = cond (differs n bits qs xs) +0 +1

-- ---- basis indices: "a qubit's bit stands where 001 has it"

-- one of the first n qubits has another bit than the index
unfoldable pub differs_from : ℕ → ℕ → (ℕ → Bool) → ℕ → Bool
differs_from low high bits zero = false
differs_from low high bits (suc n) = differs_from low high bits n || not (eqb (bit (bits n)) (basis_bit_of low high n))

-- "A basis index asks this of all n qubits"
abbrev pub register_probability : ℕ → (ℕ → Bool) → ℕ → ℕ → Float
register_probability n bits low high = cond (differs_from low high bits n) +0 +1

-- ---- shots

-- "each qubit's bit, and zeros elsewhere"
abbrev pub shot_bit : ℕ → (ℕ → Bool) → ℕ → Bool
shot_bit n bits q = ltb q n && bits q

-- the low and the high word of every shot, "whatever the draws"
abbrev pub register_low : ℕ → (ℕ → Bool) → ℕ
register_low n bits = word_of (shot_bit n bits) 0 word_bits

abbrev pub register_high : ℕ → (ℕ → Bool) → ℕ
register_high n bits = word_of (shot_bit n bits) word_bits word_bits

-- the output with the words of the shots in front; the rest is as it was
unfoldable pub register_shots : ℕ → (ℕ → Bool) → ℕ → List ℕ → List ℕ
register_shots n bits shots out =
    list_of (length out) (λ j. cond (ltb j (2 * shots)) (cond (eqb (j % 2) 0) (register_low n bits) (register_high n bits)) (get_or out j 0))
