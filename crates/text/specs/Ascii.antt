-- Text as bytes: words in ASCII, and whole numbers in decimal. Definitions only. A public promise rests on this.
use Rattle.std.specs.Prelude.{Bool, true, false, List, [], ◌∷◌, ◌++◌, ℕ, zero, suc, ◌+◌, ◌/◌, ◌%◌, ltb}
use Prim.Native.Char.{code}
use Prim.Native.String.{String}

-- the bytes of a word
unfoldable pub ascii : String → List ℕ
ascii String.[] = []
ascii (String.◌∷◌ c s) = code c ∷ ascii s

-- the byte of a digit below 10
abbrev pub digit : ℕ → ℕ
digit d = code "0" + d

-- the digits of n, the highest first; `last` says whether n has one digit only. f bounds their number: n + 1 is enough
unfoldable pub digits_of : ℕ → Bool → ℕ → List ℕ
digits_of zero last n = []
digits_of (suc f) true n = digit n ∷ []
digits_of (suc f) false n = digits_of f (ltb (n / 10) 10) (n / 10) ++ (digit (n % 10) ∷ [])

-- n in decimal
unfoldable pub decimal : ℕ → List ℕ
decimal n = digits_of (suc n) (ltb n 10) n
