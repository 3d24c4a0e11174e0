-- Operations of the engine that come from blocks, and what a list of them means: an operator after the list is pulled back through the blocks.
-- Nothing here speaks of determinants or of later modes. Assumes nothing. A public promise rests on this.
use Rattle.std.specs.Prelude.{◌≡◌, Bool, cond, List, [], ◌∷◌, ℕ, ◌<◌, eqb, Float}
use Rattle.laws.specs.Lists.{All}
use Rattle.laws.specs.Zeros.{+0, +1, sg, nz}
use Rattle.real.specs.Maps.{entry2, entry4}
use Rattle.real.specs.declared.maps.Map2.{Map2}
use Rattle.real.specs.declared.maps.Map4.{Map4}
use Rattle.state.specs.Operation.{Fits}
use Rattle.state.specs.declared.operation.Unit.{Unit as Angle}
use Rattle.state.specs.declared.operation.Operation.{Operation}
use Rattle.state.specs.declared.operation.Operation.TheVariants.{One, Two, Interaction}
use Rattle.signs.specs.Paulis.{Str}
use Rattle.signs.specs.Blocks.{Block₁, Block, on₁, on}
use Rattle.signs.specs.Majoranas.{Four, num₁, num, Row, Sends₁, Sends}

-- a row of a signed permutation in floats: 1.0 or -1.0 in its column, else 0.0
abbrev pub unit_row : {C : Type 0} → (C → ℕ) → Row C → ℕ → Float
unit_row number r j = cond (eqb j (number r.col)) (sg r.minus +1) +0

-- the engine's map q has these rows, zero signs aside
abbrev pub HasRows₁ : Map2 → (Bool → Row Bool) → Type 0
HasRows₁ q rows = (c : Bool) (j : ℕ) → j < 2 → nz (entry2 q (num₁ c) j) ≡ nz (unit_row num₁ (rows c) j)

abbrev pub HasRows : Map4 → (Four → Row Four) → Type 0
HasRows q rows = (c : Four) (j : ℕ) → j < 4 → nz (entry4 q (num c) j) ≡ nz (unit_row num (rows c) j)

-- the engine's map q is the signed permutation by which the block g sends its Majorana operators, zero signs aside
pub record Maps₁ (g : Block₁) (q : Map2) : Type 0 where
  pub rows : Bool → Row Bool
  pub sends : Sends₁ g rows
  pub entries : HasRows₁ q rows

pub record Maps (g : Block) (q : Map4) : Type 0 where
  pub rows : Four → Row Four
  pub sends : Sends g rows
  pub entries : HasRows q rows

-- the map q is a signed permutation, zero signs aside: a 1.0 or -1.0 in each row, no two in one column, and zeros
pub record Permutes₁ (q : Map2) : Type 0 where
  pub rows : Bool → Row Bool
  pub entries : HasRows₁ q rows
  pub apart : (c d : Bool) → num₁ (rows c).col ≡ num₁ (rows d).col → num₁ c ≡ num₁ d

pub record Permutes (q : Map4) : Type 0 where
  pub rows : Four → Row Four
  pub entries : HasRows q rows
  pub apart : (c d : Four) → num (rows c).col ≡ num (rows d).col → num c ≡ num d

-- an operation whose map is one, or an interaction
abbrev pub Permuting : Operation → Type 0
Permuting (One k q) = Permutes₁ q
Permuting (Two k q) = Permutes q
Permuting (Interaction mode block second unit) = Unit {0}

-- an operation of the engine with the block that it comes from: on mode k, on the modes k and k + 1; or an interaction, which the engine passes over
pub data BlockOp : Type 0 where
  one : (k : ℕ) (g : Block₁) (q : Map2) → Maps₁ g q → BlockOp
  two : (k : ℕ) (g : Block) (q : Map4) → Maps g q → BlockOp
  interaction : (mode block second : Float) (unit : Angle) → BlockOp

-- to the engine
abbrev pub operation : BlockOp → Operation
operation (one k g q h) = One k q
operation (two k g q h) = Two k q
operation (interaction mode block second unit) = Interaction mode block second unit

-- to an operator s: U* s U
abbrev pub acts : BlockOp → Str → Str
acts (one k g q h) s = on₁ g k s
acts (two k g q h) s = on g k s
acts (interaction mode block second unit) s = s

-- an operator after the list, as an operator before it: the last block comes first
unfoldable pub pulled : List BlockOp → Str → Str
pulled [] s = s
pulled (x ∷ xs) s = acts x (pulled xs s)

-- all modes are below n (question 17)
abbrev pub Within : ℕ → List BlockOp → Type 0
Within n = All (λ x. Fits n (operation x))
