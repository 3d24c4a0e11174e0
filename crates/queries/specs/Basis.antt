-- A basis index (001, `probability`), from two words: the marginal of all n qubits, bit q being qubit q's. "Basis index bits from n upward are
-- ignored." Definitions only. A public promise rests on this.
use Rattle.std.specs.Prelude.{cond, List, ℕ, ◌-◌, ◌/◌, ◌%◌, ◌^◌, ltb}
use Rattle.laws.specs.Tables.{mode_at}
use Rattle.queries.specs.Lists.{noted}

-- the bits of a word
abbrev pub word_bits : ℕ
word_bits = 64

-- bit i of a word
abbrev pub word_bit : ℕ → ℕ → ℕ
word_bit w i = w / 2 ^ i % 2

-- the bit of qubit q: the qubits 0 to 63 in the low word, 64 to 127 in the high one
unfoldable pub basis_bit_of : ℕ → ℕ → ℕ → ℕ
basis_bit_of low high q = cond (ltb q word_bits) (word_bit low q) (word_bit high (q - word_bits))

-- what the list of all n qubits with their bits says of mode k
abbrev pub basis_mark : ℕ → List ℕ → ℕ → ℕ → ℕ → ℕ
basis_mark n modes low high k = noted (mode_at modes) (basis_bit_of low high) n k
