-- A whole number that an f64 holds, and an f64 equal to it: read as a mode, that one is the number. Assumes nothing.
use Rattle.std.proofs.lemmas.Bool.{and_parts}
use Rattle.std.proofs.Common.{◌≡◌, ℕ, zero, suc, ◌+◌, ◌-◌, ◌*◌, ◌/◌, ◌^◌, ◌<◌, ◌≤◌, min, Bool, true, false, ◌||◌, T, eqb, Some, ◌⊎◌, ℤ, pos, sym, refl, ap, ◌∙◌, subst, inl, inr, ⊎_elim, lt_irrefl, zero-lt-suc, mul-lt-mul_of_pos_right, mul-pos, zero-mul, mul-one, mul_right_comm, mul-div_cancel, arith, eqb→eq, lt-ltb, eq-eqb}
use mathlib.Core.Bool.{beq, false≢true}
use native.Mathlib.Nat.{eq_of_mul-eq-mul_right, min-eq_left}
use lib.Ieee.{Float, nan, inf, fin, binary64, up, down, of_bits, of_int, to_unsigned, neg, lt, eq, round}
use lib.Ieee.Exact.{HasValue}
use lib.Ieee.Back.{round_whole}
use lib.Ieee.Fits.{down_pos}
use lib.Ieee.Scale.{finite}
use Rattle.laws.specs.Bounds.{max_qubits}
use Rattle.state.specs.Operation.{is_whole, mode_of}

-- ±m * 2 ^ e is i
record Is (i : ℕ) (s : Bool) (m : ℕ) (e : ℤ) : Type 0 where
  size : m * up e ≡ i * down e
  sign : (s ≡ false) ⊎ (i ≡ 0)

-- the float of i is n * 2 ^ d
level-is : (i : ℕ) (s : Bool) (n m : ℕ) (d e : ℤ) → n * up d ≡ i * down d → eq (fin false n d) (fin s m e) ≡ true → Is i s m e
unfolding eq
level-is i s n m d e v h =
    let a = n * up d * down e in
    let b = m * up e * down d in
    let t = and_parts (eqb a b) (beq false s || eqb a 0) h in
    let same : a ≡ b = eqb→eq a b (subst T (sym t.0) tt) in
    let size : m * up e ≡ i * down e =
    eq_of_mul-eq-mul_right (down d) (down_pos d) (m * up e) (i * down e) (sym same ∙ ap (λ (x : ℕ). x * down e) v ∙ mul_right_comm i (down d) (down e)) in
    record { size = size; sign = of-sign s t.1 }
  where
    no : (x i : ℕ) → 0 < x → i * x ≡ 0 → i ≡ 0
    no x zero p e = refl
    no x (suc i) p e = absurd (lt_irrefl 0 (subst (λ (y : ℕ). 0 < y) e (mul-pos (zero-lt-suc i) p)))

    of-sign : (s : Bool) → beq false s || eqb (n * up d * down e) 0 ≡ true → (s ≡ false) ⊎ (i ≡ 0)
    of-sign false w = inl refl
    of-sign true w =
        let z : n * up d * down e ≡ 0 = eqb→eq (n * up d * down e) 0 (subst T (sym w) tt) in
        inr (no (down d) i (down_pos d) (no (down e) (i * down d) (down_pos e) (ap (λ (x : ℕ). x * down e) (sym v) ∙ z)))

is-of-eq : (i : ℕ) (s : Bool) (m : ℕ) (e : ℤ) → i ≤ 2 ^ 53 → eq (of_int binary64 (pos i)) (fin s m e) ≡ true → Is i s m e
unfolding of_int
is-of-eq i s m e b h = from (round binary64 false i 1) (round_whole binary64 false i b) h
  where
    from : (r : Float) → HasValue r false i 1 → eq r (fin s m e) ≡ true → Is i s m e
    from nan v g = elim v [ ]
    from (inf _) v g = elim v [ ]
    from (fin true n d) v g = absurd (false≢true (sym v.0))
    from (fin false n d) v g = level-is i s n m d e (sym (mul-one (n * up d)) ∙ v.1) g

-- ---- what `is_whole` asks of such a number

none : (i : ℕ) (m : ℕ) (e : ℤ) → Is i true m e → i ≡ 0
none i m e h = ⊎_elim (λ (g : true ≡ false). absurd (false≢true (sym g))) (λ (z : i ≡ 0). z) h.sign

no_size : (i m : ℕ) (e : ℤ) → Is i true m e → m * up e ≡ 0
no_size i m e h = h.size ∙ ap (λ (x : ℕ). x * down e) (none i m e h) ∙ zero-mul (down e)

above : (i : ℕ) (s : Bool) (m : ℕ) (e : ℤ) → Is i s m e → lt (neg (of_bits binary64 0x3ff0_0000_0000_0000)) (fin s m e) ≡ true
unfolding lt neg of_bits
above i false m e h = lt-ltb 0 (1 * down e + m * up e * 1) (omega (arith, down_pos e))
above i true m e h = lt-ltb (m * up e * 1) (1 * down e) (omega (arith, down_pos e, no_size i m e h))

below : (i : ℕ) (s : Bool) (m : ℕ) (e : ℤ) → i ≤ 2 ^ 53 → Is i s m e → lt (fin s m e) (of_bits binary64 0x43f0_0000_0000_0000) ≡ true
unfolding lt of_bits
below i false m e b h =
    let small : i * down e < 2 ^ 64 * down e = mul-lt-mul_of_pos_right (omega (arith, b)) (down_pos e) in
    lt-ltb (m * up e * 1) (2 ^ 64 * down e) (omega (arith, small, h.size))
below i true m e b h = lt-ltb 0 (m * up e * 1 + 2 ^ 64 * down e) (omega (arith, down_pos e))

cut : (i : ℕ) (s : Bool) (m : ℕ) (e : ℤ) → i ≤ 2 ^ 53 → Is i s m e → to_unsigned 64 (fin s m e) ≡ i
unfolding to_unsigned
cut i false m e b h = ap (λ (x : ℕ). min (x / down e) (2 ^ 64 - 1)) h.size ∙ ap (λ (x : ℕ). min x (2 ^ 64 - 1)) (mul-div_cancel i (down_pos e)) ∙ min-eq_left (omega (arith, b))
cut i true m e b h = sym (none i m e h)

-- ---- the law

-- a whole number is neither a NaN nor an infinity
number : (r x : Float) (i : ℕ) → HasValue r false i 1 → eq r x ≡ true → T (finite x)
unfolding eq
number nan _ i v h = elim v [ ]
number (inf _) _ i v h = elim v [ ]
number (fin s n d) nan i v h = absurd (false≢true h)
number (fin s n d) (inf t) i v h = absurd (false≢true h)
number (fin s n d) (fin t m e) i v h = tt

pub mode-is : (x : Float) (i n : ℕ) → i ≤ 2 ^ 53 → i < n → eq (of_int binary64 (pos i)) x ≡ true → mode_of x n ≡ Some i
unfolding mode_of is_whole of_int
mode-is x i n b l h = by x h (number (round binary64 false i 1) x i (round_whole binary64 false i b) h)
  where
    by : (x : Float) → eq (of_int binary64 (pos i)) x ≡ true → T (finite x) → mode_of x n ≡ Some i
    by nan h f = elim f [ ]
    by (inf _) h f = elim f [ ]
    by (fin s m e) h f =
        let w = is-of-eq i s m e b h in
        rw (above i s m e w, below i s m e b w, cut i s m e b w, h, lt-ltb i n l)

-- ---- a mode that was written as a float is read back

same : (r : Float) (k : ℕ) → HasValue r false k 1 → eq r r ≡ true
unfolding eq
same nan k v = elim v [ ]
same (inf _) k v = elim v [ ]
same (fin true n d) k v = absurd (false≢true (sym v.0))
same (fin false n d) k v = rw (eq-eqb (n * up d * down d) (n * up d * down d) refl)

pub mode-back : (k n : ℕ) → k < n → n ≤ max_qubits → mode_of (of_int binary64 (pos k)) n ≡ Some k
unfolding of_int
mode-back k n h m =
    let small : k ≤ 2 ^ 53 = omega (arith, h, m) in
    mode-is (of_int binary64 (pos k)) k n small h (same (of_int binary64 (pos k)) k (round_whole binary64 false k small))
