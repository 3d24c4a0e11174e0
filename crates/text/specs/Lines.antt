-- The lines of the printing program. Its example:
--   qubits 2 blocks 1 gaussian 1 bad 0 interactions 0
--   order identity 0 1
--   q0 1000000
--   q1 -1000000
-- Definitions only. A public promise rests on this.
use Rattle.std.specs.Prelude.{List, [], ◌++◌, ℕ, zero, suc, get_or, Float}
use Prim.Native.String.{String}
use Rattle.order.specs.declared.choice.Ordering.{Ordering}
use Rattle.order.specs.declared.choice.Ordering.TheVariants.{Identity, Paths, Greedy}
use Rattle.text.specs.Ascii.{ascii, decimal}
use Rattle.text.specs.Millionths.{z_text}

abbrev pub line : List ℕ → List ℕ
line xs = xs ++ ascii "\n"

-- a word, and a number after it
abbrev pub field : String → ℕ → List ℕ
field word x = ascii word ++ decimal x

-- f 0, then f 1, .., then f (n - 1)
unfoldable pub pieces : (ℕ → List ℕ) → ℕ → List ℕ
pieces f zero = []
pieces f (suc n) = pieces f n ++ f n

-- ---- line 1

unfoldable pub report_line : ℕ → ℕ → ℕ → ℕ → ℕ → List ℕ
report_line n blocks gaussian bad interactions =
    line
    (field "qubits " n ++ field " blocks " blocks ++ field " gaussian " gaussian ++ field " bad " bad ++ field " interactions " interactions)

-- ---- "line 2 names the ordering, then wires by mode"

unfoldable pub name_of : Ordering → List ℕ
name_of Identity = ascii "identity"
name_of Paths = ascii "paths"
name_of Greedy = ascii "greedy"

-- the wires on the first n modes
abbrev pub wires : List ℕ → ℕ → List ℕ
wires order n = pieces (λ k. field " " (get_or order k 0)) n

unfoldable pub order_line : Ordering → List ℕ → ℕ → List ℕ
order_line o order n = line (ascii "order " ++ name_of o ++ wires order n)

-- ---- "each q line is Z"

unfoldable pub z_line : ℕ → Float → List ℕ
z_line q x = line (field "q" q ++ ascii " " ++ z_text x)

-- those of the first n qubits
abbrev pub z_lines : (ℕ → Float) → ℕ → List ℕ
z_lines z n = pieces (λ q. z_line q (z q)) n

-- ---- the lines that stand alone

-- "a refusal prints only `refused R at P`"
unfoldable pub refused_line : ℕ → ℕ → List ℕ
refused_line number place = line (field "refused " number ++ field " at " place)

unfoldable pub too_big_line : List ℕ
too_big_line = line (ascii "too big")
