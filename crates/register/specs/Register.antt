-- The bit register (document 01, "The bit register"): "A register tape has gates of the codes 00, 02 to 06 and 12 to 14 only, and any labels, flags,
-- tolerance and limit. The register is fed its n and its gate records in tape order, nothing else. It holds n bits, all zero at first." Codes are
-- hexadecimal. Assumes nothing. A public promise rests on this.
use Rattle.std.specs.Prelude.{◌≡◌, ◌⊎◌, ◌≢◌, Bool, false, not, cond, ◌&&◌, ◌||◌, ℕ, ◌+◌, T, eqb, leb}
use mathlib.Core.List.{List, [], ◌∷◌, Memᴰ}
use Rattle.laws.specs.Tables.{update, exchange}
use Rattle.tape.specs.Parse.{gates_of}
use Rattle.tape.specs.declared.gates.Gate.{Gate}
use Rattle.tape.specs.declared.gates.Gate.TheVariants.{One, Two, Three}

-- ---- the codes

-- "00, 02 to 06"
abbrev pub register_one : ℕ → Bool
register_one code = leb code 0x06 && not (eqb code 0x01)

-- "12 to 14"
abbrev pub register_two : ℕ → Bool
register_two code = leb 0x12 code && leb code 0x14

abbrev pub is_register_gate : Gate → Bool
is_register_gate (One code q m) = register_one code
is_register_gate (Two code a b m) = register_two code
is_register_gate (Three a b c) = false

abbrev pub RegisterGate : Gate → Type 0
RegisterGate x = T (is_register_gate x)

-- "A register tape has gates of the codes .. only"
abbrev pub RegisterTape : List ℕ → Type 0
RegisterTape t = (x : Gate) → Memᴰ x (gates_of t) → RegisterGate x

-- ---- demand 3's last sentence: the gates of a tape that must be accepted

-- "every pair is q and q+1"; "a pair may be named in either order"
abbrev pub Beside : ℕ → ℕ → Type 0
Beside a b = (b ≡ a + 1) ⊎ (a ≡ b + 1)

-- "no Swap occurs"
abbrev pub PlainGate : Gate → Type 0
PlainGate (One code q m) = Unit {0}
PlainGate (Two code a b m) = (code ≢ 0x12) × Beside a b
PlainGate (Three a b c) = ⊥

-- ---- the bits

-- "02 and 03 turn their qubit's bit"; "00, 04, 05 and 06 change nothing"
abbrev pub turns : ℕ → Bool
turns code = eqb code 0x02 || eqb code 0x03

-- "12, 13 and 14 exchange the bits of their two qubits"
abbrev pub exchanges : ℕ → Bool
exchanges code = eqb code 0x12 || (eqb code 0x13 || eqb code 0x14)

abbrev pub register_step : Gate → (ℕ → Bool) → ℕ → Bool
register_step (One code q m) bits = cond (turns code) (update q (not (bits q)) bits) bits
register_step (Two code a b m) bits = cond (exchanges code) (exchange a b bits) bits
register_step (Three a b c) bits = bits

-- the gates in tape order
unfoldable pub register_from : List Gate → (ℕ → Bool) → ℕ → Bool
register_from [] bits = bits
register_from (x ∷ xs) bits = register_from xs (register_step x bits)

-- the last bit of each qubit: "all zero at first"
unfoldable pub register_bits : List Gate → ℕ → Bool
register_bits gs = register_from gs (λ q. false)
