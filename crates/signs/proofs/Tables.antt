-- Laws of signs and of single Paulis: products of Paulis are associative, and which products turn |0>.
-- Those on Paulis are computed tests over all cases. Assumes nothing.
use mathlib.Core.Path.{◌≡◌, refl, sym, ap, ◌∙◌}
use mathlib.Core.Bool.{Bool, true, false, xor, ◌&&◌, true≢false}
use Prim.Native.Nat.{ℕ, zero, suc}
use lib.Dec.{T, eqb, eqb→eq, eqb_refl}
use lib.Ieee.Fits.{and_l, and_r}
use Rattle.laws.specs.Phase.{i0, i1, i3, ◌⊕◌}
use Rattle.laws.proofs.Phases.{eq_phase, eq_phase→}
use Rattle.signs.specs.Paulis.{sgn, Pauli, p_i, p_x, p_y, p_z, pr, ph, flips}

-- ---- signs

-- two signs are one
pub sgn-xor : (a b : Bool) → sgn a ⊕ sgn b ≡ sgn (xor a b)
unfolding xor
sgn-xor false false = refl
sgn-xor false true = refl
sgn-xor true false = refl
sgn-xor true true = refl

pub xor-none : (b : Bool) → xor false b ≡ b
unfolding xor
xor-none false = refl
xor-none true = refl

-- ---- tests that are computed

abbrev pauli_number : Pauli → ℕ
pauli_number p_i = 0
pauli_number p_x = 1
pauli_number p_y = 2
pauli_number p_z = 3

abbrev pauli_of : ℕ → Pauli
pauli_of zero = p_i
pauli_of (suc zero) = p_x
pauli_of (suc (suc zero)) = p_y
pauli_of (suc (suc (suc n))) = p_z

pauli-of : (p : Pauli) → pauli_of (pauli_number p) ≡ p
pauli-of p_i = refl
pauli-of p_x = refl
pauli-of p_y = refl
pauli-of p_z = refl

abbrev pub same_pauli : Pauli → Pauli → Bool
same_pauli p q = eqb (pauli_number p) (pauli_number q)

pub same-pauli : (p q : Pauli) → T (same_pauli p q) → p ≡ q
same-pauli p q h = sym (pauli-of p) ∙ ap pauli_of (eqb→eq (pauli_number p) (pauli_number q) h) ∙ pauli-of q

pub pauli-refl : (p : Pauli) → T (same_pauli p p)
pauli-refl p = eqb_refl (pauli_number p)

-- four tests that all pass
pub four : (a b c d : Bool) → T (a && b && c && d) → T a × T b × T c × T d
four a b c d h =
    let abc = and_l (a && b && c) d h in
    let ab = and_l (a && b) c abc in
    (and_l a b ab, and_r a b ab, and_r (a && b) c abc, and_r (a && b && c) d h)

-- of all Paulis, of all pairs, and so on
abbrev pub all : (Pauli → Bool) → Bool
all f = f p_i && f p_x && f p_y && f p_z

pub all→ : (f : Pauli → Bool) → T (all f) → (p : Pauli) → T (f p)
all→ f h p_i = (four (f p_i) (f p_x) (f p_y) (f p_z) h).0
all→ f h p_x = (four (f p_i) (f p_x) (f p_y) (f p_z) h).1
all→ f h p_y = (four (f p_i) (f p_x) (f p_y) (f p_z) h).2
all→ f h p_z = (four (f p_i) (f p_x) (f p_y) (f p_z) h).3

abbrev pub all2 : (Pauli → Pauli → Bool) → Bool
all2 f = all (λ p. all (f p))

pub all2→ : (f : Pauli → Pauli → Bool) → T (all2 f) → (p q : Pauli) → T (f p q)
all2→ f h p q = all→ (f p) (all→ (λ p. all (f p)) h p) q

abbrev pub all3 : (Pauli → Pauli → Pauli → Bool) → Bool
all3 f = all (λ p. all2 (f p))

pub all3→ : (f : Pauli → Pauli → Pauli → Bool) → T (all3 f) → (p q r : Pauli) → T (f p q r)
all3→ f h p = all2→ (f p) (all→ (λ p. all2 (f p)) h p)

abbrev pub all4 : (Pauli → Pauli → Pauli → Pauli → Bool) → Bool
all4 f = all (λ p. all3 (f p))

pub all4→ : (f : Pauli → Pauli → Pauli → Pauli → Bool) → T (all4 f) → (p q r s : Pauli) → T (f p q r s)
all4→ f h p = all3→ (f p) (all→ (λ p. all3 (f p)) h p)

-- ---- Paulis

pub pr-assoc : (p q r : Pauli) → pr (pr p q) r ≡ pr p (pr q r)
pr-assoc p q r = same-pauli (pr (pr p q) r) (pr p (pr q r)) (all3→ (λ p q r. same_pauli (pr (pr p q) r) (pr p (pr q r))) tt p q r)

pub ph-assoc : (p q r : Pauli) → ph p q ⊕ ph (pr p q) r ≡ ph q r ⊕ ph p (pr q r)
ph-assoc p q r =
    eq_phase→ (ph p q ⊕ ph (pr p q) r) (ph q r ⊕ ph p (pr q r))
    (all3→ (λ p q r. eq_phase (ph p q ⊕ ph (pr p q) r) (ph q r ⊕ ph p (pr q r))) tt p q r)

pub pr-comm : (p q : Pauli) → pr p q ≡ pr q p
pr-comm p q = same-pauli (pr p q) (pr q p) (all2→ (λ p q. same_pauli (pr p q) (pr q p)) tt p q)

-- the square of a Pauli
pub pr-square : (p : Pauli) → pr p p ≡ p_i
pr-square p_i = refl
pr-square p_x = refl
pr-square p_y = refl
pr-square p_z = refl

pub ph-square : (p : Pauli) → ph p p ≡ i0
ph-square p_i = refl
ph-square p_x = refl
ph-square p_y = refl
ph-square p_z = refl

-- the other order has the other sign of i
pub ph-back : (p q : Pauli) → ph p q ⊕ ph q p ≡ i0
ph-back p q = eq_phase→ (ph p q ⊕ ph q p) i0 (all2→ (λ p q. eq_phase (ph p q ⊕ ph q p) i0) tt p q)

-- the tests are none that always pass: X Y is i Z, Y X is -i Z
x-y : (ph p_x p_y ≡ i1) × (ph p_y p_x ≡ i3) × (pr p_x p_y ≡ p_z) × (eq_phase i1 i3 ≡ false) × (same_pauli p_x p_y ≡ false)
x-y = (refl, refl, refl, refl, refl)

pub flips-pr : (p q : Pauli) → flips (pr p q) ≡ xor (flips p) (flips q)
unfolding xor
flips-pr p_i p_i = refl
flips-pr p_i p_x = refl
flips-pr p_i p_y = refl
flips-pr p_i p_z = refl
flips-pr p_x p_i = refl
flips-pr p_x p_x = refl
flips-pr p_x p_y = refl
flips-pr p_x p_z = refl
flips-pr p_y p_i = refl
flips-pr p_y p_x = refl
flips-pr p_y p_y = refl
flips-pr p_y p_z = refl
flips-pr p_z p_i = refl
flips-pr p_z p_x = refl
flips-pr p_z p_y = refl
flips-pr p_z p_z = refl

-- two that leave |0> commute, and their product has no phase
pub quiet-ph : (p q : Pauli) → flips p ≡ false → flips q ≡ false → ph p q ≡ i0
quiet-ph p_i q h k = refl
quiet-ph p_x q h k = absurd (true≢false h)
quiet-ph p_y q h k = absurd (true≢false h)
quiet-ph p_z p_i h k = refl
quiet-ph p_z p_x h k = absurd (true≢false k)
quiet-ph p_z p_y h k = absurd (true≢false k)
quiet-ph p_z p_z h k = refl
