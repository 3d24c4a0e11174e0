-- What items do to the bits of the modes, given the mode of each wire: the same as to the bits of the wires. Assumes nothing.
-- Only inner functions rest on this.
use Rattle.std.specs.Prelude.{Bool, List, [], ◌∷◌, ℕ}
use Rattle.resolve.specs.Items.{Item, one, two, opaque}
use Rattle.register.specs.Bits.{turn1, turn2}

module _ (pos : ℕ → ℕ) where
  abbrev pub mode_bits : Item → (ℕ → Bool) → ℕ → Bool
  mode_bits (one w m) bits = turn1 (pos w) m bits
  mode_bits (two kind a b residual v) bits = turn2 (pos a) (pos b) v bits
  mode_bits opaque bits = bits

  -- the newest first
  unfoldable pub modes_run : List Item → (ℕ → Bool) → ℕ → Bool
  modes_run [] bits = bits
  modes_run (x ∷ xs) bits = mode_bits x (modes_run xs bits)
