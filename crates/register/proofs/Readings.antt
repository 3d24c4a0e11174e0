-- The bits that are read from a float matrix with the values of a block are the block's, whatever the signs of its zeros; so products, Kronecker
-- products and renamings of such matrices do to bits what they should. Assumes nothing.
use mathlib.Core.Path.{◌≡◌, refl, sym, ap, ap₂, ◌∙◌}
use mathlib.Core.Bool.{Bool, true, false, not, cond, ◌&&◌}
use lib.Dec.{T}
use lib.IntN.{pos}
use Rattle.laws.specs.Dyadic.{eq_z}
use Rattle.laws.specs.Phase.{Phase, i0, i1, i2, i3, real_z, imag_z}
use Rattle.laws.proofs.DyadicOrder.{eq-dy}
use Rattle.gate.specs.Complex.{is_zero_of, f0}
use Rattle.gate.specs.Matrix.{id2, mul2_of, mul4_of, kron_of, mat4_swap_qubits_of}
use Rattle.gate.specs.declared.complex.Complex.{Complex}
use Rattle.gate.specs.declared.matrix.Row4.{Row4}
use Rattle.gate.specs.declared.matrix.Mat2.{Mat2}
use Rattle.gate.specs.declared.matrix.Mat4.{Mat4}
use Rattle.monomial.specs.Groups.{Two, two, Four, four, Row4Of, Mat2Of, Mat4Of}
use Rattle.monomial.specs.Monomial.{IsEntry, none, unit, flip, Mono2, Mono4, place4, entries2, entries4, Has2, Has4, bit_a, bit_b}
use Rattle.monomial.specs.Algebra.{times2, times4, kron4, renamed, mono_i}
use Rattle.monomial.proofs.Complexes.{zero_is}
use Rattle.monomial.proofs.Operators.{has-I}
use Rattle.monomial.proofs.Tests.{every_bit, at-bit}
use Rattle.monomial.proofs.Algebra.{mul2-has, mul4-has, kron-has, renamed-has, times-bit2, times-bit_a, times-bit_b}
use Rattle.register.specs.Bits.{column4, turned_of, first_of, second_of}
use Rattle.register.specs.Blocks.{Turn, Block}

-- ---- Boolean identities by computing

abbrev same : Bool → Bool → Bool
same p x = not (flip p x)

same→ : (p x : Bool) → T (same p x) → p ≡ x
same→ false false t = refl
same→ false true t = absurd t
same→ true false t = absurd t
same→ true true t = refl

all-bits : (p q : Bool → Bool → Bool → Bool → Bool)
    → T (every_bit (λ f. every_bit (λ g. every_bit (λ x. every_bit (λ y. same (p f g x y) (q f g x y)))))) → (f g x y : Bool) → p f g x y ≡ q f g x y
all-bits p q t f g x y =
    same→ (p f g x y) (q f g x y)
    (at-bit (λ y. same (p f g x y) (q f g x y))
    (at-bit (λ x. every_bit (λ y. same (p f g x y) (q f g x y)))
    (at-bit (λ g. every_bit (λ x. every_bit (λ y. same (p f g x y) (q f g x y))))
    (at-bit (λ f. every_bit (λ g. every_bit (λ x. every_bit (λ y. same (p f g x y) (q f g x y))))) t f) g) x) y)

-- ---- entries

zero-none : (c : Complex) → IsEntry c none → is_zero_of c ≡ true
unfolding is_zero_of
zero-none c h = λ i. eq-dy 0 (pos 0) (pos 0) c.re f0 h.0 zero_is i && eq-dy 0 (pos 0) (pos 0) c.im f0 h.1 zero_is i

no-phase : (k : Phase) → (eq_z (real_z k) (pos 0) && eq_z (imag_z k) (pos 0)) ≡ false
no-phase i0 = refl
no-phase i1 = refl
no-phase i2 = refl
no-phase i3 = refl

zero-unit : (c : Complex) (k : Phase) → IsEntry c (unit k) → is_zero_of c ≡ false
unfolding is_zero_of
zero-unit c k h =
    (λ i. eq-dy 0 (real_z k) (pos 0) c.re f0 h.0 zero_is i && eq-dy 0 (imag_z k) (pos 0) c.im f0 h.1 zero_is i) ∙ no-phase k

-- a row with its entry in the column of the bits p q has nothing in that of the bits x y
abbrev misses : Bool → Bool → Bool → Bool → Bool
misses p q x y = not (same p x && same q y)

zero-at : (r : Row4) (p q : Bool) (k : Phase) → Row4Of IsEntry r (place4 p q k) → (x y : Bool) → is_zero_of (column4 r x y) ≡ misses p q x y
zero-at r false false k h false false = zero-unit r.c0 k h.0
zero-at r false false k h false true = zero-none r.c1 h.1
zero-at r false false k h true false = zero-none r.c2 h.2
zero-at r false false k h true true = zero-none r.c3 h.3
zero-at r false true k h false false = zero-none r.c0 h.0
zero-at r false true k h false true = zero-unit r.c1 k h.1
zero-at r false true k h true false = zero-none r.c2 h.2
zero-at r false true k h true true = zero-none r.c3 h.3
zero-at r true false k h false false = zero-none r.c0 h.0
zero-at r true false k h false true = zero-none r.c1 h.1
zero-at r true false k h true false = zero-unit r.c2 k h.2
zero-at r true false k h true true = zero-none r.c3 h.3
zero-at r true true k h false false = zero-none r.c0 h.0
zero-at r true true k h false true = zero-none r.c1 h.1
zero-at r true true k h true false = zero-none r.c2 h.2
zero-at r true true k h true true = zero-unit r.c3 k h.3

-- ---- one qubit

pub turned-is : (m : Mat2) (b : Mono2) → Has2 m b → (x : Bool) → turned_of m x ≡ flip b.turn x
unfolding turned_of
turned-is m b h x = at b.turn b.phases h x
  where
    at : (f : Bool) (p : Two Phase) → Mat2Of IsEntry m (entries2 f p) → (x : Bool) → turned_of m x ≡ flip f x
    at false (two k l) h false = zero-unit m.r0.c0 k h.0.0
    at false (two k l) h true = zero-none m.r0.c1 h.0.1
    at true (two k l) h false = zero-none m.r0.c0 h.0.0
    at true (two k l) h true = zero-unit m.r0.c1 k h.0.1

pub turn-id : Turn id2
turn-id = (mono_i, has-I)

pub turned-id : (x : Bool) → turned_of id2 x ≡ x
turned-id x = turned-is id2 mono_i has-I x

pub turn-mul : (m k : Mat2) → Turn m → Turn k → Turn (mul2_of m k)
turn-mul m k p q = (times2 p.0 q.0, mul2-has m k p.0 q.0 p.1 q.1)

pub turned-mul : (m k : Mat2) → Turn m → Turn k → (x : Bool) → turned_of (mul2_of m k) x ≡ turned_of m (turned_of k x)
turned-mul m k p q x =
    turned-is (mul2_of m k) (times2 p.0 q.0) (mul2-has m k p.0 q.0 p.1 q.1) x
    ∙ times-bit2 p.0 q.0 x
    ∙ sym (turned-is m p.0 p.1 (turned_of k x) ∙ ap (flip p.0.turn) (turned-is k q.0 q.1 x))

-- ---- two qubits

first-straight : (f g x y : Bool) → (misses (flip f false) (flip g false) x y && misses (flip f false) (flip g true) x y) ≡ flip f x
first-straight = all-bits (λ f g x y. misses (flip f false) (flip g false) x y && misses (flip f false) (flip g true) x y) (λ f g x y. flip f x) tt

first-crossed : (f g x y : Bool) → (misses (flip g false) (flip f false) x y && misses (flip g true) (flip f false) x y) ≡ flip f y
first-crossed = all-bits (λ f g x y. misses (flip g false) (flip f false) x y && misses (flip g true) (flip f false) x y) (λ f g x y. flip f y) tt

second-straight : (f g x y : Bool) → (misses (flip f false) (flip g false) x y && misses (flip f true) (flip g false) x y) ≡ flip g y
second-straight = all-bits (λ f g x y. misses (flip f false) (flip g false) x y && misses (flip f true) (flip g false) x y) (λ f g x y. flip g y) tt

second-crossed : (f g x y : Bool) → (misses (flip g false) (flip f false) x y && misses (flip g false) (flip f true) x y) ≡ flip g x
second-crossed = all-bits (λ f g x y. misses (flip g false) (flip f false) x y && misses (flip g false) (flip f true) x y) (λ f g x y. flip g x) tt

module _ (u : Mat4) (b : Mono4) (h : Has4 u b) (x y : Bool) where
  pub first-is : first_of u x y ≡ bit_a b x y
  unfolding first_of
  first-is = at b.swap b.turn_a b.turn_b b.phases h
    where
      at : (s f g : Bool) (p : Four Phase) → Mat4Of IsEntry u (entries4 s f g p) → first_of u x y ≡ flip f (cond s y x)
      at false f g (four k l m n) h =
          (λ i. zero-at u.r0 (flip f false) (flip g false) k h.0 x y i && zero-at u.r1 (flip f false) (flip g true) l h.1 x y i)
          ∙ first-straight f g x y
      at true f g (four k l m n) h =
          (λ i. zero-at u.r0 (flip g false) (flip f false) k h.0 x y i && zero-at u.r1 (flip g true) (flip f false) l h.1 x y i)
          ∙ first-crossed f g x y

  pub second_is : second_of u x y ≡ bit_b b x y
  unfolding second_of
  second_is = at b.swap b.turn_a b.turn_b b.phases h
    where
      at : (s f g : Bool) (p : Four Phase) → Mat4Of IsEntry u (entries4 s f g p) → second_of u x y ≡ flip g (cond s x y)
      at false f g (four k l m n) h =
          (λ i. zero-at u.r0 (flip f false) (flip g false) k h.0 x y i && zero-at u.r2 (flip f true) (flip g false) m h.2 x y i)
          ∙ second-straight f g x y
      at true f g (four k l m n) h =
          (λ i. zero-at u.r0 (flip g false) (flip f false) k h.0 x y i && zero-at u.r2 (flip g false) (flip f true) m h.2 x y i)
          ∙ second-crossed f g x y

-- ---- products

module _ {Q : Mono4 → Type 0} (m k : Mat4) (p : Block Q m) (q : Block Q k) (x y : Bool) where
  pub mul-has : Has4 (mul4_of m k) (times4 p.0 q.0)
  mul-has = mul4-has m k p.0 q.0 p.1 q.1

  pub mul-first : first_of (mul4_of m k) x y ≡ first_of m (first_of k x y) (second_of k x y)
  mul-first =
      first-is (mul4_of m k) (times4 p.0 q.0) mul-has x y
      ∙ times-bit_a p.0 q.0 x y
      ∙ sym (first-is m p.0 p.1 (first_of k x y) (second_of k x y)
      ∙ ap₂ (bit_a p.0) (first-is k q.0 q.1 x y) (second_is k q.0 q.1 x y))

  pub mul-second : second_of (mul4_of m k) x y ≡ second_of m (first_of k x y) (second_of k x y)
  mul-second =
      second_is (mul4_of m k) (times4 p.0 q.0) mul-has x y
      ∙ times-bit_b p.0 q.0 x y
      ∙ sym (second_is m p.0 p.1 (first_of k x y) (second_of k x y)
      ∙ ap₂ (bit_b p.0) (first-is k q.0 q.1 x y) (second_is k q.0 q.1 x y))

module _ (m k : Mat2) (p : Turn m) (q : Turn k) (x y : Bool) where
  pub kron-first : first_of (kron_of m k) x y ≡ turned_of m x
  kron-first = first-is (kron_of m k) (kron4 p.0 q.0) (kron-has m k p.0 q.0 p.1 q.1) x y ∙ sym (turned-is m p.0 p.1 x)

  pub kron-second : second_of (kron_of m k) x y ≡ turned_of k y
  kron-second = second_is (kron_of m k) (kron4 p.0 q.0) (kron-has m k p.0 q.0 p.1 q.1) x y ∙ sym (turned-is k q.0 q.1 y)

module _ {Q : Mono4 → Type 0} (m : Mat4) (p : Block Q m) (x y : Bool) where
  pub renamed-first : first_of (mat4_swap_qubits_of m) x y ≡ second_of m y x
  renamed-first = first-is (mat4_swap_qubits_of m) (renamed p.0) (renamed-has m p.0 p.1) x y ∙ sym (second_is m p.0 p.1 y x)

  pub renamed-second : second_of (mat4_swap_qubits_of m) x y ≡ first_of m y x
  renamed-second = second_is (mat4_swap_qubits_of m) (renamed p.0) (renamed-has m p.0 p.1) x y ∙ sym (first-is m p.0 p.1 y x)
