-- WHAT WICK'S THEOREM SAYS: after every list of blocks the value of a product of Majorana operators is the Pfaffian of the values of their pairs; and so a
-- product of parities is a Pfaffian of the engine's covariance. Definitions only. A public promise rests on this.
use Rattle.std.specs.Prelude.{◌≡◌, Bool, List, [], ◌∷◌, length, ℕ, ◌+◌, ◌*◌}
use Rattle.rings.specs.Rings.{Ops, times}
use Rattle.formulas.specs.Numbers.{Exact}
use Rattle.formulas.specs.Engine.{Mat, Local, Item, get}
use Rattle.formulas.specs.Determinants.{odd}
use Rattle.formulas.specs.Pfaffians.{pfaffian, AllBelow, Distinct}
use Rattle.angles.specs.Qubits.{z, Operators, gamma}
use Rattle.angles.specs.Angles.{Block, after, state_after}

-- the two indices of each mode
abbrev pub indices : List ℕ → List ℕ
indices [] = []
indices (k ∷ ks) = (2 * k) ∷ (2 * k + 1) ∷ indices ks

module _ {𝓝 : Ops} {i : 𝓝.N} {n : ℕ} {𝓐 : Ops} (𝓠 : Operators 𝓝 i n 𝓐) where
  -- the product of the Majorana operators of a list
  abbrev pub gammas : List ℕ → 𝓐.N
  gammas = times 𝓐 (gamma 𝓠)

  -- the values of pairs
  abbrev pub pairs_after : List (Item (Block 𝓠)) → Mat 𝓝
  pairs_after gs r c = after 𝓠 gs (𝓐.mul (gamma 𝓠 r) (gamma 𝓠 c))

  -- Z on each of the listed modes
  abbrev pub parities : List ℕ → 𝓐.N
  parities = times 𝓐 (𝓠.pauli z)

  -- THE STATEMENT
  abbrev pub Wick : Type 0
  Wick = (gs : List (Item (Block 𝓠))) (rs : List ℕ) → AllBelow (2 * n) rs → after 𝓠 gs (gammas rs) ≡ pfaffian 𝓝 (pairs_after gs) (length rs) rs

-- THE WHOLE STATEMENT: over every exact numbers, of every number of qubits
abbrev pub WickTheorem : Type 1
WickTheorem = (𝓝 : Ops) (below : 𝓝.N → Bool) (𝓔 : Exact 𝓝 below) (n : ℕ) (𝓐 : Ops) (𝓠 : Operators 𝓝 𝓔.i n 𝓐) → Wick 𝓠

module _ {𝓝 : Ops} {below : 𝓝.N → Bool} (𝓔 : Exact 𝓝 below) {n : ℕ} {𝓐 : Ops} (𝓠 : Operators 𝓝 𝓔.i n 𝓐) (asked : Local 𝓝 → Bool) where
  -- THE STATEMENT on products of different parities: the Pfaffian of their rows and columns
  abbrev pub ZProducts : Type 0
  ZProducts = (gs : List (Item (Block 𝓠))) (ks : List ℕ) → AllBelow n ks → Distinct ks
      → pfaffian 𝓝 (get 𝓝 (state_after 𝓔 𝓠 asked gs)) (length (indices ks)) (indices ks) ≡ after 𝓠 gs (parities 𝓠 ks)

-- THE WHOLE STATEMENT on them: over every exact numbers, of every number of qubits
abbrev pub ZTheorem : Type 1
ZTheorem = (𝓝 : Ops) (below : 𝓝.N → Bool) (𝓔 : Exact 𝓝 below) (n : ℕ) (𝓐 : Ops) (𝓠 : Operators 𝓝 𝓔.i n 𝓐) → ZProducts 𝓔 𝓠 (odd 𝓝 below)
