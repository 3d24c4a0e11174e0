-- Products, Kronecker products, adjoints and renamings of float matrices with the values of monomial blocks have the values of the blocks that the
-- algebra gives: each by computing with phases that are variables. Their bits compose, even sums stay even, and so blocks that fit give blocks that
-- fit. Assumes nothing.
use mathlib.Core.Path.{◌≡◌, refl, ap, ◌∙◌, subst}
use mathlib.Core.Bool.{Bool, true, false, cond, ◌||◌}
use lib.Dec.{T}
use Rattle.laws.specs.Phase.{Phase, ◌⊕◌, minus, is_odd}
use Rattle.laws.proofs.Phases.{every_phase, eq_phase, eq_phase→, all-four, interchange, minus-sum, cancels}
use Rattle.gate.specs.Matrix.{mul2_of, kron_of, mul4_of, dag4_of, mat4_swap_qubits_of}
use Rattle.gate.specs.declared.matrix.Mat2.{Mat2}
use Rattle.gate.specs.declared.matrix.Mat4.{Mat4}
use Rattle.monomial.specs.Groups.{Two, two, Four, four, Mat2Of, Mat4Of}
use Rattle.monomial.specs.Monomial.{IsEntry, flip, Mono2, Mono4, entries2, entries4, entries_of, Has2, Has4, bit_a, bit_b, w_of, matchgate_phase, IsMatchgate}
use Rattle.monomial.specs.Algebra.{times2, columns, plus4, times4, kron4, renamed, adjoint, Even}
use Rattle.monomial.proofs.Tests.{every_bit, at-bit}
use Rattle.monomial.proofs.Products.{mul2, kron, mul4, dag4, turned, mul2-law, kron-law, mul4-law, dag4-law, turned-law}
use Rattle.monomial.proofs.Entries.{entry_ops, entry_sound}

-- a property of all flags
pub by_flags : (P : Bool → Bool → Bool → Type 0)
    → P false false false → P false false true → P false true false → P false true true
    → P true false false → P true false true → P true true false → P true true true → (s f g : Bool) → P s f g
by_flags P a b c d e f g h false false false = a
by_flags P a b c d e f g h false false true = b
by_flags P a b c d e f g h false true false = c
by_flags P a b c d e f g h false true true = d
by_flags P a b c d e f g h true false false = e
by_flags P a b c d e f g h true false true = f
by_flags P a b c d e f g h true true false = g
by_flags P a b c d e f g h true true true = h

abbrev mono4 : Bool → Bool → Bool → Four Phase → Mono4
mono4 s f g k = record { swap = s; turn_a = f; turn_b = g; phases = k }

-- ---- one qubit

module _ (k l k' l' : Phase) where
  abbrev Product2 : Bool → Bool → Type 0
  Product2 f f' =
      let c = times2 (record { turn = f; phases = two k l }) (record { turn = f'; phases = two k' l' }) in
      mul2 entry_ops (entries2 f (two k l)) (entries2 f' (two k' l')) ≡ entries2 c.turn c.phases

  product2 : (f f' : Bool) → Product2 f f'
  product2 false false = refl
  product2 false true = refl
  product2 true false = refl
  product2 true true = refl

pub mul2-has : (u v : Mat2) (b c : Mono2) → Has2 u b → Has2 v c → Has2 (mul2_of u v) (times2 b c)
mul2-has u v b c h k =
    subst (Mat2Of IsEntry (mul2_of u v)) (at b.phases c.phases)
    (mul2-law entry_ops IsEntry entry_sound u v (entries2 b.turn b.phases) (entries2 c.turn c.phases) h k)
  where
    at : (p q : Two Phase)
        → (let d = times2 (record { turn = b.turn; phases = p }) (record { turn = c.turn; phases = q }) in
        mul2 entry_ops (entries2 b.turn p) (entries2 c.turn q) ≡ entries2 d.turn d.phases)
    at (two k l) (two k' l') = product2 k l k' l' b.turn c.turn

-- ---- products

module _ (k l m n k' l' m' n' : Phase) where
  abbrev Product : Bool → Bool → Bool → Bool → Bool → Bool → Type 0
  Product s f g s' f' g' =
      mul4 entry_ops (entries4 s f g (four k l m n)) (entries4 s' f' g' (four k' l' m' n'))
      ≡ entries_of (times4 (mono4 s f g (four k l m n)) (mono4 s' f' g' (four k' l' m' n')))

  product : (s f g s' f' g' : Bool) → Product s f g s' f' g'
  product false false false = by_flags (Product false false false) refl refl refl refl refl refl refl refl
  product false false true = by_flags (Product false false true) refl refl refl refl refl refl refl refl
  product false true false = by_flags (Product false true false) refl refl refl refl refl refl refl refl
  product false true true = by_flags (Product false true true) refl refl refl refl refl refl refl refl
  product true false false = by_flags (Product true false false) refl refl refl refl refl refl refl refl
  product true false true = by_flags (Product true false true) refl refl refl refl refl refl refl refl
  product true true false = by_flags (Product true true false) refl refl refl refl refl refl refl refl
  product true true true = by_flags (Product true true true) refl refl refl refl refl refl refl refl

pub mul4-has : (u v : Mat4) (b c : Mono4) → Has4 u b → Has4 v c → Has4 (mul4_of u v) (times4 b c)
mul4-has u v b c h k =
    subst (Mat4Of IsEntry (mul4_of u v)) (at b.phases c.phases) (mul4-law entry_ops IsEntry entry_sound u v (entries_of b) (entries_of c) h k)
  where
    at : (p q : Four Phase)
        → mul4 entry_ops (entries4 b.swap b.turn_a b.turn_b p) (entries4 c.swap c.turn_a c.turn_b q)
        ≡ entries_of (times4 (mono4 b.swap b.turn_a b.turn_b p) (mono4 c.swap c.turn_a c.turn_b q))
    at (four k l m n) (four k' l' m' n') = product k l m n k' l' m' n' b.swap b.turn_a b.turn_b c.swap c.turn_a c.turn_b

-- ---- Kronecker products

module _ (k l k' l' : Phase) where
  abbrev Kron : Bool → Bool → Type 0
  Kron f f' =
      kron entry_ops (entries2 f (two k l)) (entries2 f' (two k' l'))
      ≡ entries_of (kron4 (record { turn = f; phases = two k l }) (record { turn = f'; phases = two k' l' }))

  krons : (f f' : Bool) → Kron f f'
  krons false false = refl
  krons false true = refl
  krons true false = refl
  krons true true = refl

pub kron-has : (u v : Mat2) (b c : Mono2) → Has2 u b → Has2 v c → Has4 (kron_of u v) (kron4 b c)
kron-has u v b c h k =
    subst (Mat4Of IsEntry (kron_of u v)) (at b.phases c.phases)
    (kron-law entry_ops IsEntry entry_sound u v (entries2 b.turn b.phases) (entries2 c.turn c.phases) h k)
  where
    at : (p q : Two Phase)
        → kron entry_ops (entries2 b.turn p) (entries2 c.turn q)
        ≡ entries_of (kron4 (record { turn = b.turn; phases = p }) (record { turn = c.turn; phases = q }))
    at (two k l) (two k' l') = krons k l k' l' b.turn c.turn

-- ---- adjoints and renamings

module _ (k l m n : Phase) where
  adjoints : (s f g : Bool) → dag4 entry_ops (entries4 s f g (four k l m n)) ≡ entries_of (adjoint (mono4 s f g (four k l m n)))
  adjoints =
      by_flags (λ s f g. dag4 entry_ops (entries4 s f g (four k l m n)) ≡ entries_of (adjoint (mono4 s f g (four k l m n))))
      refl refl refl refl refl refl refl refl

  renamings : (s f g : Bool) → turned (entries4 s f g (four k l m n)) ≡ entries_of (renamed (mono4 s f g (four k l m n)))
  renamings =
      by_flags (λ s f g. turned (entries4 s f g (four k l m n)) ≡ entries_of (renamed (mono4 s f g (four k l m n))))
      refl refl refl refl refl refl refl refl

pub dag4-has : (u : Mat4) (b : Mono4) → Has4 u b → Has4 (dag4_of u) (adjoint b)
dag4-has u b h = subst (Mat4Of IsEntry (dag4_of u)) (at b.phases) (dag4-law entry_ops IsEntry entry_sound u (entries_of b) h)
  where
    at : (p : Four Phase)
        → dag4 entry_ops (entries4 b.swap b.turn_a b.turn_b p) ≡ entries_of (adjoint (mono4 b.swap b.turn_a b.turn_b p))
    at (four k l m n) = adjoints k l m n b.swap b.turn_a b.turn_b

pub renamed-has : (u : Mat4) (b : Mono4) → Has4 u b → Has4 (mat4_swap_qubits_of u) (renamed b)
renamed-has u b h = subst (Mat4Of IsEntry (mat4_swap_qubits_of u)) (at b.phases) (turned-law IsEntry u (entries_of b) h)
  where
    at : (p : Four Phase) → turned (entries4 b.swap b.turn_a b.turn_b p) ≡ entries_of (renamed (mono4 b.swap b.turn_a b.turn_b p))
    at (four k l m n) = renamings k l m n b.swap b.turn_a b.turn_b

-- ---- bits

flip-flip : (f g x : Bool) → flip (flip f g) x ≡ flip f (flip g x)
flip-flip false g x = refl
flip-flip true false x = refl
flip-flip true true false = refl
flip-flip true true true = refl

pub times-bit2 : (b c : Mono2) (x : Bool) → flip (times2 b c).turn x ≡ flip b.turn (flip c.turn x)
times-bit2 b c x = flip-flip b.turn c.turn x

-- the bits of b after those of c
module _ (b c : Mono4) (x y : Bool) where
  pub times-bit_a : bit_a (times4 b c) x y ≡ bit_a b (bit_a c x y) (bit_b c x y)
  times-bit_a = by b.swap c.swap
    where
      by : (s s' : Bool)
          → flip (flip b.turn_a (cond s c.turn_b c.turn_a)) (cond (flip s s') y x)
          ≡ flip b.turn_a (cond s (flip c.turn_b (cond s' x y)) (flip c.turn_a (cond s' y x)))
      by false s' = flip-flip b.turn_a c.turn_a (cond s' y x)
      by true false = flip-flip b.turn_a c.turn_b y
      by true true = flip-flip b.turn_a c.turn_b x

  pub times-bit_b : bit_b (times4 b c) x y ≡ bit_b b (bit_a c x y) (bit_b c x y)
  times-bit_b = by b.swap c.swap
    where
      by : (s s' : Bool)
          → flip (flip b.turn_b (cond s c.turn_a c.turn_b)) (cond (flip s s') x y)
          ≡ flip b.turn_b (cond s (flip c.turn_a (cond s' y x)) (flip c.turn_b (cond s' x y)))
      by false s' = flip-flip b.turn_b c.turn_b (cond s' x y)
      by true false = flip-flip b.turn_b c.turn_a x
      by true true = flip-flip b.turn_b c.turn_a y

-- the qubits named in the other order: so are the bits
pub renamed-bit_a : (b : Mono4) (x y : Bool) → bit_a (renamed b) x y ≡ bit_b b y x
renamed-bit_a b x y = refl

pub renamed-bit_b : (b : Mono4) (x y : Bool) → bit_b (renamed b) x y ≡ bit_a b y x
renamed-bit_b b x y = refl

-- ---- even sums

-- w of a sum is the sum
w-plus : (p q : Four Phase) → w_of (plus4 p q) ≡ w_of p ⊕ w_of q
w-plus (four k l m n) (four k' l' m' n') =
    (λ t. interchange k k' n n' t ⊕ (ap minus (interchange l l' m m') ∙ minus-sum (l ⊕ m) (l' ⊕ m')) t)
    ∙ interchange (k ⊕ n) (k' ⊕ n') (minus (l ⊕ m)) (minus (l' ⊕ m'))

-- F moves the phases of a block about, and an even w stays
abbrev pub keeps_even : (Bool → Bool → Bool → Four Phase → Four Phase) → Bool → Bool → Bool → Phase → Phase → Phase → Phase → Bool
keeps_even F s f g k l m n = is_odd (w_of (four k l m n)) || eq_phase (w_of (F s f g (four k l m n))) (w_of (four k l m n))

abbrev all_phases : (Bool → Bool → Bool → Four Phase → Four Phase) → Bool → Bool → Bool → Bool
all_phases F s f g = every_phase (λ k. every_phase (λ l. every_phase (λ m. every_phase (keeps_even F s f g k l m))))

abbrev KeepsEven : (Bool → Bool → Bool → Four Phase → Four Phase) → Type 0
KeepsEven F = T (every_bit (λ s. every_bit (λ f. every_bit (λ g. all_phases F s f g))))

even-stays : (F : Bool → Bool → Bool → Four Phase → Four Phase) → KeepsEven F → (s f g t : Bool) (p : Four Phase)
    → w_of p ≡ matchgate_phase t → w_of (F s f g p) ≡ matchgate_phase t
even-stays F h s f g t (four k l m n) e =
    eq_phase→ (w_of (F s f g (four k l m n))) (w_of (four k l m n))
    (subst (λ (b : Bool). T (b || eq_phase (w_of (F s f g (four k l m n))) (w_of (four k l m n)))) (even t (w_of (four k l m n)) e)
    (all-four (keeps_even F s f g)
    (at-bit (λ g. all_phases F s f g)
    (at-bit (λ f. every_bit (λ g. all_phases F s f g)) (at-bit (λ s. every_bit (λ f. every_bit (λ g. all_phases F s f g))) h s) f) g)
    k l m n))
    ∙ e
  where
    even : (t : Bool) (w : Phase) → w ≡ matchgate_phase t → is_odd w ≡ false
    even false w e = ap is_odd e
    even true w e = ap is_odd e

columns-even : KeepsEven columns
columns-even = tt

adjoint-phases : KeepsEven (λ s f g p. (adjoint (mono4 s f g p)).phases)
adjoint-phases = tt

renamed-phases : KeepsEven (λ s f g p. (renamed (mono4 s f g p)).phases)
renamed-phases = tt

fitting-plus : (t t' : Bool) → matchgate_phase t ⊕ matchgate_phase t' ≡ matchgate_phase (flip t t')
fitting-plus false t' = refl
fitting-plus true false = refl
fitting-plus true true = refl

-- a product: where both fit, so does it, since swap flags add in the same way
pub times-even : (t t' : Bool) (b c : Mono4) → Even t b → Even t' c → Even (flip t t') (times4 b c)
times-even t t' b c h k =
    w-plus b.phases (columns b.swap b.turn_a b.turn_b c.phases)
    ∙ (λ i. h i ⊕ even-stays columns columns-even b.swap b.turn_a b.turn_b t' c.phases k i)
    ∙ fitting-plus t t'

pub kron-even : (b c : Mono2) → Even false (kron4 b c)
kron-even b c = at b.phases c.phases
  where
    at : (p q : Two Phase) → Even false (kron4 (record { turn = b.turn; phases = p }) (record { turn = c.turn; phases = q }))
    at (two k l) (two k' l') = cancels k l k' l'

pub adjoint-even : (t : Bool) (b : Mono4) → Even t b → Even t (adjoint b)
adjoint-even t b = even-stays (λ s f g p. (adjoint (mono4 s f g p)).phases) adjoint-phases b.swap b.turn_a b.turn_b t b.phases

pub renamed-even : (t : Bool) (b : Mono4) → Even t b → Even t (renamed b)
renamed-even t b = even-stays (λ s f g p. (renamed (mono4 s f g p)).phases) renamed-phases b.swap b.turn_a b.turn_b t b.phases

-- ---- blocks that fit

pub times-fits : (b c : Mono4) → IsMatchgate b → IsMatchgate c → IsMatchgate (times4 b c)
times-fits b c = times-even b.swap c.swap b c

pub kron-fits : (b c : Mono2) → IsMatchgate (kron4 b c)
kron-fits b c = kron-even b c

pub adjoint-fits : (b : Mono4) → IsMatchgate b → IsMatchgate (adjoint b)
adjoint-fits b = adjoint-even b.swap b

pub renamed-fits : (b : Mono4) → IsMatchgate b → IsMatchgate (renamed b)
renamed-fits b = renamed-even b.swap b
