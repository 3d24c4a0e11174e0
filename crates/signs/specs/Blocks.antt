-- Blocks: unitaries U on one mode or on two neighbours that send Paulis to signed Paulis, by what U* P U is for each P on their own modes. That it
-- respects products is all that is asked. A block acts on a string at its own modes only. Assumes nothing. A public promise rests on this.
use Rattle.std.specs.Prelude.{◌≡◌, ℕ, ◌+◌}
use Rattle.laws.specs.Tables.{update}
use Rattle.laws.specs.Phase.{Phase, ◌⊕◌}
use Rattle.signs.specs.Paulis.{Pauli, pr, ph, Str}

-- ---- signed Paulis on one mode, and on two

pub record One : Type 0 where
  pub phase : Phase
  pub at : Pauli

pub record Two : Type 0 where
  pub phase : Phase
  pub first : Pauli
  pub second : Pauli

infixl 70 ◌·₁◌ ◌·◌
abbrev pub ◌·₁◌ : One → One → One
x ·₁ y = record { phase = x.phase ⊕ y.phase ⊕ ph x.at y.at; at = pr x.at y.at }

abbrev pub ◌·◌ : Two → Two → Two
x · y = record {
  phase = x.phase ⊕ y.phase ⊕ (ph x.first y.first ⊕ ph x.second y.second);
  first = pr x.first y.first;
  second = pr x.second y.second;
}

-- a phase in front
abbrev pub front₁ : Phase → One → One
front₁ k x = record { phase = k ⊕ x.phase; at = x.at }

abbrev pub front : Phase → Two → Two
front k x = record { phase = k ⊕ x.phase; first = x.first; second = x.second }

-- ---- blocks: the image of each Pauli, and of a product the product of the images

pub record Block₁ : Type 0 where
  pub to : Pauli → One
  pub hom : (p q : Pauli) → front₁ (ph p q) (to (pr p q)) ≡ to p ·₁ to q

pub record Block : Type 0 where
  pub to : Pauli → Pauli → Two
  pub hom : (p q r s : Pauli) → front (ph p r ⊕ ph q s) (to (pr p r) (pr q s)) ≡ to p q · to r s

-- ---- U* s U, for a block on mode k, or on the modes k and k + 1: what stands there is replaced by its image, and nothing else is touched

abbrev pub on₁ : Block₁ → ℕ → Str → Str
on₁ g k s =
    let x = g.to (s.at k) in
    record { phase = s.phase ⊕ x.phase; at = update k x.at s.at }

abbrev pub on : Block → ℕ → Str → Str
on g k s =
    let x = g.to (s.at k) (s.at (k + 1)) in
    record { phase = s.phase ⊕ x.phase; at = update k x.first (update (k + 1) x.second s.at) }
