-- A query's own questions, 18 to 22, in the words of document 01: of the qubits listed and of what is lent. (16 is the state's.) Nothing here is the engine's:
-- no mode, no list of modes, no test of its. Definitions only. A public promise rests on this.
use Rattle.std.specs.Prelude.{Bool, not, ◌&&◌, ◌||◌, List, ℕ, ◌*◌, ◌%◌, eqb, leb, ltb, get_or, length, Float}
use Rattle.std.specs.Float.{nan}
use Rattle.std.specs.Float.Ieee.{le, lt}
use Rattle.laws.specs.Tests.{all_below, count}
use Rattle.laws.specs.Zeros.{+0, +1}

-- ---- a list of qubits

-- how often qubit q is listed
abbrev pub times : List ℕ → ℕ → ℕ
times qs q = count (λ j. eqb (get_or qs j 0) q) (length qs)

-- "pairs of a listed qubit cancel": how many qubits a product leaves
abbrev pub left_of_product : ℕ → List ℕ → ℕ
left_of_product n qs = count (λ q. eqb (times qs q % 2) 1) n

-- "a qubit listed again with the same bit counts once": how many qubits a marginal leaves
abbrev pub left_of_marginal : ℕ → List ℕ → ℕ
left_of_marginal n qs = count (λ q. ltb 0 (times qs q)) n

-- ---- question 20

-- "has work dim² places? dim is twice the modes left", and each qubit left has its mode
abbrev pub has_places : ℕ → List Float → Bool
has_places left work = leb ((2 * left) * (2 * left)) (length work)

-- ---- a product: 19 and 20

-- "is each listed qubit below n?"
abbrev pub qubits_exist : ℕ → List ℕ → Bool
qubits_exist n qs = all_below (λ j. ltb (get_or qs j 0) n) (length qs)

abbrev pub product_passes : ℕ → List ℕ → List Float → Bool
product_passes n qs work = qubits_exist n qs && has_places (left_of_product n qs) work

-- ---- a marginal: 18, 19 and 20

-- "as many bits as qubits, each 0 or 1?"
abbrev pub bits_match : List ℕ → List ℕ → Bool
bits_match qs bits = eqb (length qs) (length bits) && all_below (λ j. leb (get_or bits j 0) 1) (length bits)

-- two places ask one qubit for two bits
abbrev pub contradict : List ℕ → List ℕ → ℕ → ℕ → Bool
contradict qs bits i j = eqb (get_or qs i 0) (get_or qs j 0) && not (eqb (get_or bits i 0) (get_or bits j 0))

-- no two of the first i places do
unfoldable pub agree : List ℕ → List ℕ → ℕ → Bool
agree qs bits i = all_below (λ k. all_below (λ j. not (contradict qs bits j k)) k) i

-- "is each listed qubit below n?", of the places that are read: "a marginal stops with 0.0 at the first contradiction, later qubits and 20 unread". So a place
-- is read if those before it agree
abbrev pub read_qubits_exist : ℕ → List ℕ → List ℕ → Bool
read_qubits_exist n qs bits = all_below (λ j. not (agree qs bits j) || ltb (get_or qs j 0) n) (length qs)

-- where the list contradicts itself 20 is unread
abbrev pub marginal_passes : ℕ → List ℕ → List ℕ → List Float → Bool
marginal_passes n qs bits work =
    bits_match qs bits
    && (read_qubits_exist n qs bits && (not (agree qs bits (length qs)) || has_places (left_of_marginal n qs) work))

-- ---- a basis index: 20. It asks "all n qubits"

abbrev pub probability_passes : ℕ → List Float → Bool
probability_passes n work = has_places n work

-- ---- a sample: 20, 21 and 22. "dim is .. for a sample 2n"

-- "shots at most 65,536, draws at least n × shots, output at least 2 u64 per shot?"
abbrev pub shots_fit : ℕ → ℕ → List Float → List ℕ → Bool
shots_fit n shots draws out = leb shots 65536 && (leb (n * shots) (length draws) && leb (2 * shots) (length out))

-- "is each draw used at least 0 and below 1?"
abbrev pub draws_fit : ℕ → List Float → Bool
draws_fit used draws = all_below (λ i. le +0 (get_or draws i nan) && lt (get_or draws i nan) +1) used

abbrev pub sample_passes : ℕ → ℕ → List Float → List Float → List ℕ → Bool
sample_passes n shots draws work out = has_places n work && (shots_fit n shots draws out && draws_fit (n * shots) draws)
