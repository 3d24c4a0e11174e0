-- The algebra of monomial blocks, by flags and phases: products, the Kronecker product, the adjoint, the qubits named in the other order, and the
-- blocks of the named gates of a register tape. Assumes nothing. Only inner functions rest on this.
use Rattle.std.specs.Prelude.{◌≡◌, Bool, true, false, cond, [], ◌∷◌, ℕ, get_or}
use Rattle.laws.specs.Phase.{Phase, i0, i1, i2, i3, ◌⊕◌, minus}
use Rattle.monomial.specs.Groups.{Two, two, Four, four}
use Rattle.monomial.specs.Monomial.{flip, Mono2, Mono4, w_of, matchgate_phase}

-- ---- one qubit

-- the phase of the row of the bit x
abbrev pub pick2 : Two Phase → Bool → Phase
pick2 (two k l) false = k
pick2 (two k l) true = l

-- b after c: the phase of a row of b, and of the row of c that stands in its column
abbrev pub times2 : Mono2 → Mono2 → Mono2
times2 b c = record { turn = flip b.turn c.turn; phases = two (phase false) (phase true) }
  where
    phase : Bool → Phase
    phase x = pick2 b.phases x ⊕ pick2 c.phases (flip b.turn x)

-- ---- two qubits

-- the phase of the row of the bits x y
abbrev pub pick4 : Four Phase → Bool → Bool → Phase
pick4 (four k l m n) false false = k
pick4 (four k l m n) false true = l
pick4 (four k l m n) true false = m
pick4 (four k l m n) true true = n

-- the phases of c in the columns of a block's rows
abbrev pub column : Bool → Bool → Bool → Four Phase → Bool → Bool → Phase
column false f g c x y = pick4 c (flip f x) (flip g y)
column true f g c x y = pick4 c (flip g y) (flip f x)

abbrev pub columns : Bool → Bool → Bool → Four Phase → Four Phase
columns s f g c = four (column s f g c false false) (column s f g c false true) (column s f g c true false) (column s f g c true true)

abbrev pub plus4 : Four Phase → Four Phase → Four Phase
plus4 (four a b c d) (four e f g h) = four (a ⊕ e) (b ⊕ f) (c ⊕ g) (d ⊕ h)

-- b after c
abbrev pub times4 : Mono4 → Mono4 → Mono4
times4 b c = record {
  swap = flip b.swap c.swap;
  turn_a = flip b.turn_a (cond b.swap c.turn_b c.turn_a);
  turn_b = flip b.turn_b (cond b.swap c.turn_a c.turn_b);
  phases = plus4 b.phases (columns b.swap b.turn_a b.turn_b c.phases);
}

-- b on the first qubit, c on the second
abbrev pub kron4 : Mono2 → Mono2 → Mono4
kron4 b c = record {
  swap = false;
  turn_a = b.turn;
  turn_b = c.turn;
  phases = four (phase false false) (phase false true) (phase true false) (phase true true);
}
  where
    phase : Bool → Bool → Phase
    phase x y = pick2 b.phases x ⊕ pick2 c.phases y

-- the qubits named in the other order
abbrev pub renamed : Mono4 → Mono4
renamed b = record {
  swap = b.swap;
  turn_a = b.turn_b;
  turn_b = b.turn_a;
  phases = four (pick4 b.phases false false) (pick4 b.phases true false) (pick4 b.phases false true) (pick4 b.phases true true);
}

-- the row of the inverse: column x y of b has its entry in the row of the bits after
abbrev pub inverse : Bool → Bool → Bool → Four Phase → Bool → Bool → Phase
inverse s f g k x y = minus (pick4 k (flip f (cond s y x)) (flip g (cond s x y)))

abbrev pub adjoint : Mono4 → Mono4
adjoint b = record {
  swap = b.swap;
  turn_a = cond b.swap b.turn_b b.turn_a;
  turn_b = cond b.swap b.turn_a b.turn_b;
  phases = four (phase false false) (phase false true) (phase true false) (phase true true);
}
  where
    phase : Bool → Bool → Phase
    phase = inverse b.swap b.turn_a b.turn_b b.phases

-- w is 1, or -1 where t is set: the sum of the phases is even. A block fits where t is its swap flag
abbrev pub Even : Bool → Mono4 → Type 0
Even t b = w_of b.phases ≡ matchgate_phase t

-- ---- the named gates of a register tape

abbrev pub mono2 : Bool → Phase → Phase → Mono2
mono2 f k l = record { turn = f; phases = two k l }

abbrev pub mono_i : Mono2
mono_i = mono2 false i0 i0

abbrev pub mono_x : Mono2
mono_x = mono2 true i0 i0

abbrev pub mono_y : Mono2
mono_y = mono2 true i3 i1

abbrev pub mono_z : Mono2
mono_z = mono2 false i0 i2

abbrev pub mono_s : Mono2
mono_s = mono2 false i0 i1

abbrev pub mono_sdg : Mono2
mono_sdg = mono2 false i0 i3

-- the bits exchanged, with the phase k where they differ
abbrev pub exchange : Phase → Mono4
exchange k = record { swap = true; turn_a = false; turn_b = false; phases = four i0 k k i0 }

abbrev pub mono_swap : Mono4
mono_swap = exchange i0

abbrev pub mono_i_swap : Mono4
mono_i_swap = exchange i1

abbrev pub mono_i_swapdg : Mono4
mono_i_swapdg = exchange i3

-- by code: 00 I, 02 X, 03 Y, 04 Z, 05 S, 06 Sdg; 01, H, is none of them, and what stands for it here is never asked
abbrev pub mono1q_of : ℕ → Mono2
mono1q_of code = get_or (mono_i ∷ mono_i ∷ mono_x ∷ mono_y ∷ mono_z ∷ mono_s ∷ mono_sdg ∷ []) code mono_i

-- 12 Swap, 13 ISwap, 14 ISwapdg, counted from 12
abbrev pub mono2q_from : ℕ → Mono4
mono2q_from j = get_or (mono_swap ∷ mono_i_swap ∷ mono_i_swapdg ∷ []) j mono_swap
