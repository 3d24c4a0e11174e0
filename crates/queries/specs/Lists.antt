-- The list of a query, by its places: which place is bad, what a place contradicts, and the modes that are left of it. Definitions only.
-- A public promise rests on this.
use Rattle.std.specs.Prelude.{Bool, false, not, cond, ◌&&◌, ◌||◌, List, [], ◌∷◌, ◌++◌, ℕ, zero, suc, eqb, leb, ltb, get_or, length}
use Rattle.laws.specs.Tests.{all_below}
use Rattle.laws.specs.Tables.{mode_at}

-- ---- numbers that pass a test

-- the first of the n numbers from k on that passes; the number after them if none does
unfoldable pub first_from : (ℕ → Bool) → ℕ → ℕ → ℕ
first_from p k zero = k
first_from p k (suc n) = cond (p k) k (first_from p (suc k) n)

-- the first below n; n if there is none
abbrev pub first : (ℕ → Bool) → ℕ → ℕ
first p n = first_from p 0 n

-- those below n that pass are odd in number
unfoldable pub oddly : (ℕ → Bool) → ℕ → Bool
oddly p zero = false
oddly p (suc n) = cond (p n) (not (oddly p n)) (oddly p n)

-- those below n that pass, ascending
unfoldable pub passing : (ℕ → Bool) → ℕ → List ℕ
passing p zero = []
passing p (suc n) = cond (p n) (passing p n ++ (n ∷ [])) (passing p n)

-- ---- the list of a product

-- the mode of the qubit at place j
abbrev pub mode_listed : List ℕ → List ℕ → ℕ → ℕ
mode_listed modes qs j = mode_at modes (get_or qs j 0)

-- the qubit at place j is not below n
abbrev pub outside : ℕ → List ℕ → ℕ → Bool
outside n qs j = leb n (get_or qs j 0)

-- "is each listed qubit below n?" (question 19): the place of the first that is not; the list's length if each is
unfoldable pub bad_place : ℕ → List ℕ → ℕ
bad_place n qs = first (outside n qs) (length qs)

-- the first i places list mode k an odd number of times
abbrev pub odd_mode : List ℕ → List ℕ → ℕ → ℕ → Bool
odd_mode modes qs i k = oddly (λ j. eqb (mode_listed modes qs j) k) i

-- "pairs of a listed qubit cancel": the modes of odd count, ascending
unfoldable pub odd_modes : ℕ → List ℕ → List ℕ → List ℕ
odd_modes n modes qs = passing (odd_mode modes qs (length qs)) n

-- ---- the list of a marginal: place j asks mode m j for the bit b j

-- what the first i places say of mode k: 0 if they do not list it, else one more than the first bit that they list of it
unfoldable pub noted : (ℕ → ℕ) → (ℕ → ℕ) → ℕ → ℕ → ℕ
noted m b zero k = 0
noted m b (suc i) k = cond (eqb (noted m b i k) 0 && eqb (m i) k) (suc (b i)) (noted m b i k)

-- something is noted, and it is not x
abbrev pub conflicts_of : ℕ → ℕ → Bool
conflicts_of noted x = ltb 0 noted && not (eqb noted x)

-- a contradiction: what place i asks was asked before, with another bit
abbrev pub contradicts : (ℕ → ℕ) → (ℕ → ℕ) → ℕ → Bool
contradicts m b i = conflicts_of (noted m b i (m i)) (suc (b i))

-- "as many bits as qubits, each 0 or 1?" (question 18)
unfoldable pub bits_ok : List ℕ → List ℕ → Bool
bits_ok qs bits = eqb (length qs) (length bits) && all_below (λ j. leb (get_or bits j 0) 1) (length bits)

-- the bit at place j
abbrev pub bit_listed : List ℕ → ℕ → ℕ
bit_listed bits j = get_or bits j 0

-- the first place that is bad (question 19) or a contradiction; the list's length if there is none
unfoldable pub stop_place : ℕ → List ℕ → List ℕ → List ℕ → ℕ
stop_place n modes qs bits = first (λ j. outside n qs j || contradicts (mode_listed modes qs) (bit_listed bits) j) (length qs)

-- what the whole list says of mode k
abbrev pub asked : List ℕ → List ℕ → List ℕ → ℕ → ℕ
asked modes qs bits k = noted (mode_listed modes qs) (bit_listed bits) (length qs) k

-- the modes that something is noted of, ascending: "a qubit listed again with the same bit counts once"
abbrev pub noted_modes : ℕ → (ℕ → ℕ) → List ℕ
noted_modes n mark = passing (λ k. ltb 0 (mark k)) n
