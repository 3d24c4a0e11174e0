-- What is shown of a register tape's items: they follow the register; and without Swap and with neighbouring pairs nothing is renamed, and every item
-- is Gaussian. Assumes nothing. Only inner functions rest on this.
use Rattle.std.specs.Prelude.{◌≡◌, Bool, List, ℕ, ◌<◌, get_or}
use Rattle.laws.specs.Lists.{All}
use Rattle.tape.specs.declared.gates.Gate.{Gate}
use Rattle.monomial.specs.Monomial.{Mono4, IsMatchgate}
use Rattle.fuse.specs.Relabel.{Labelled, slot_of}
use Rattle.resolve.specs.Items.{Item, one, two, opaque}
use Rattle.resolve.specs.Whole.{Fused}
use Rattle.register.specs.Register.{Beside, register_bits}
use Rattle.register.specs.Bits.{items_run, zeros}
use Rattle.register.specs.Blocks.{Turn, Block, Places, GaussianKind, ItemIs}

-- ---- every register tape

-- gs: the gates of a tape on n qubits; s: their slots and events; f: what fusing makes of the events
pub record Follows (relabel : Bool) (n : ℕ) (Q : Mono4 → Type 0) (P : ℕ → ℕ → Type 0) (Still : Type 0) (gs : List Gate) (s : Labelled)
    (f : Fused) : Type 0 where
  -- the slots of the qubits and the wires in the slots: the numbers below n, each once
  pub lab : Places n Still s.lab
  pub content : Places n Still f.content
  pub items : All (ItemIs relabel n Q P Still) f.items
  -- the register's bit of qubit q is the bit of the wire in its slot, after all items
  pub bits : (q : ℕ) → q < n → register_bits gs q ≡ items_run f.items zeros (get_or f.content (slot_of s q) 0)

-- every pair
abbrev pub any_pair : ℕ → ℕ → Type 0
any_pair a b = Unit {0}

-- ---- demand 3's last sentence

-- a matchgate on neighbours, or diagonal with no phase, or on one wire
abbrev pub GaussianItem : ℕ → Item → Type 0
GaussianItem n (one w m) = (w < n) × Turn m
GaussianItem n (two kind a b residual v) = (a < n) × (b < n) × Beside a b × Block IsMatchgate v × GaussianKind kind
GaussianItem n opaque = ⊥

pub record Plain (n : ℕ) (s : Labelled) (f : Fused) : Type 0 where
  -- qubit q stays in slot q, and wire w in slot w
  pub lab : (q : ℕ) → q < n → slot_of s q ≡ q
  pub content : (w : ℕ) → w < n → get_or f.content w 0 ≡ w
  pub items : All (GaussianItem n) f.items
