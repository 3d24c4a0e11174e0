-- The items (000, `Item`): fused, classified blocks in terms of wires. Of a two-qubit item's class the kind, the residual and v are kept; whether the phase
-- of a diagonal block counts as none is part of the kind. Assumes nothing. A public promise rests on this.
use Rattle.std.specs.Prelude.{Bool, true, false, List, [], ◌++◌, ℕ, zero, suc, ◌<◌, Float}
use Rattle.laws.specs.Lists.{All}
use Rattle.gate.specs.declared.matrix.Mat2.{Mat2}
use Rattle.gate.specs.declared.matrix.Mat4.{Mat4}
use Rattle.classify.specs.declared.classify.Kind2.{Kind2}
use Rattle.classify.specs.declared.classify.Kind2.TheVariants.{Diag, Interaction, Match, NonGaussian}

-- what a two-qubit item is (000, `Kind2`)
pub data ItemKind : Type 0 where
  matchgate : ItemKind
  -- diagonal, and "the phase counts as none"; diagonal, and it does not
  phaseless : ItemKind
  interacting : ItemKind
  neither : ItemKind

abbrev pub kind_of : Kind2 → ItemKind
kind_of Diag = phaseless
kind_of Interaction = interacting
kind_of (Match r) = matchgate
kind_of (NonGaussian r) = neither

abbrev pub is_matchgate : ItemKind → Bool
is_matchgate matchgate = true
is_matchgate phaseless = false
is_matchgate interacting = false
is_matchgate neither = false

pub data Item : Type 0 where
  -- w, u
  one : ℕ → Mat2 → Item
  -- kind, a, b, residual, v
  two : ItemKind → ℕ → ℕ → Float → Mat4 → Item
  opaque : Item

-- the items of the first n records, the newest first; a record has one or none
unfoldable pub newest_first : (ℕ → List Item) → ℕ → List Item
newest_first e zero = []
newest_first e (suc n) = e n ++ newest_first e n

-- the wires of an item are below n
abbrev pub ItemBelow : ℕ → Item → Type 0
ItemBelow n (one w u) = w < n
ItemBelow n (two k a b r v) = (a < n) × (b < n)
ItemBelow n opaque = Unit {0}

-- so are those of each item of a list
abbrev pub ItemsBelow : ℕ → List Item → Type 0
ItemsBelow n = All (ItemBelow n)
