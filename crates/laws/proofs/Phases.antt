-- Laws of phases: they are a commutative group, and whether two are equal is a test that computes, as is a test over all of them. Assumes nothing.
use mathlib.Core.Path.{◌≡◌, refl, sym, ap, ◌∙◌}
use mathlib.Core.Bool.{Bool, true, false, ◌&&◌}
use lib.Dec.{T}
use lib.Ieee.Fits.{and_l, and_r}
use Rattle.laws.specs.Phase.{Phase, i0, i1, i2, i3, next, ◌⊕◌, minus}

-- ---- a commutative group

next-left : (x y : Phase) → next x ⊕ y ≡ next (x ⊕ y)
next-left i0 y = refl
next-left i1 y = refl
next-left i2 y = refl
next-left i3 i0 = refl
next-left i3 i1 = refl
next-left i3 i2 = refl
next-left i3 i3 = refl

pub assoc : (x y z : Phase) → x ⊕ y ⊕ z ≡ x ⊕ (y ⊕ z)
assoc i0 y z = refl
assoc i1 y z = next-left y z
assoc i2 y z = next-left (next y) z ∙ ap next (next-left y z)
assoc i3 y z = next-left (next (next y)) z ∙ ap next (next-left (next y) z ∙ ap next (next-left y z))

pub right-none : (x : Phase) → x ⊕ i0 ≡ x
right-none i0 = refl
right-none i1 = refl
right-none i2 = refl
right-none i3 = refl

next-right : (x y : Phase) → x ⊕ next y ≡ next (x ⊕ y)
next-right i0 y = refl
next-right i1 y = refl
next-right i2 y = refl
next-right i3 y = refl

pub comm : (x y : Phase) → x ⊕ y ≡ y ⊕ x
comm x i0 = right-none x
comm x i1 = next-right x i0 ∙ ap next (right-none x)
comm x i2 = next-right x i1 ∙ ap next (next-right x i0 ∙ ap next (right-none x))
comm x i3 = next-right x i2 ∙ ap next (next-right x i1 ∙ ap next (next-right x i0 ∙ ap next (right-none x)))

pub left_comm : (x y z : Phase) → x ⊕ (y ⊕ z) ≡ y ⊕ (x ⊕ z)
left_comm x y z = sym (assoc x y z) ∙ ap (λ (w : Phase). w ⊕ z) (comm x y) ∙ assoc y x z

-- sums of phases, in any order
pub ruleset Sums = (assoc, comm, left_comm)

-- a factor on both sides
pub cancel : (x y z : Phase) → x ⊕ y ≡ x ⊕ z → y ≡ z
cancel i0 y z e = e
cancel i1 y z e = assoc i3 i1 y ∙ ap (λ w. i3 ⊕ w) e ∙ sym (assoc i3 i1 z)
cancel i2 y z e = assoc i2 i2 y ∙ ap (λ w. i2 ⊕ w) e ∙ sym (assoc i2 i2 z)
cancel i3 y z e = assoc i1 i3 y ∙ ap (λ w. i1 ⊕ w) e ∙ sym (assoc i1 i3 z)

-- only 1 is its own square
pub no-phase : (x y : Phase) → y ≡ i0 → x ≡ x ⊕ x ⊕ y → x ≡ i0
no-phase x y h e = cancel x x i0 (sym (right-none (x ⊕ x)) ∙ ap (λ k. x ⊕ x ⊕ k) (sym h) ∙ sym e ∙ sym (right-none x))

-- ---- phases are equal

abbrev pub eq_phase : Phase → Phase → Bool
eq_phase i0 i0 = true
eq_phase i0 i1 = false
eq_phase i0 i2 = false
eq_phase i0 i3 = false
eq_phase i1 i0 = false
eq_phase i1 i1 = true
eq_phase i1 i2 = false
eq_phase i1 i3 = false
eq_phase i2 i0 = false
eq_phase i2 i1 = false
eq_phase i2 i2 = true
eq_phase i2 i3 = false
eq_phase i3 i0 = false
eq_phase i3 i1 = false
eq_phase i3 i2 = false
eq_phase i3 i3 = true

pub eq_phase→ : (k l : Phase) → T (eq_phase k l) → k ≡ l
eq_phase→ i0 i0 t = refl
eq_phase→ i0 i1 t = absurd t
eq_phase→ i0 i2 t = absurd t
eq_phase→ i0 i3 t = absurd t
eq_phase→ i1 i0 t = absurd t
eq_phase→ i1 i1 t = refl
eq_phase→ i1 i2 t = absurd t
eq_phase→ i1 i3 t = absurd t
eq_phase→ i2 i0 t = absurd t
eq_phase→ i2 i1 t = absurd t
eq_phase→ i2 i2 t = refl
eq_phase→ i2 i3 t = absurd t
eq_phase→ i3 i0 t = absurd t
eq_phase→ i3 i1 t = absurd t
eq_phase→ i3 i2 t = absurd t
eq_phase→ i3 i3 t = refl

pub eq_phase-refl : (k : Phase) → T (eq_phase k k)
eq_phase-refl i0 = tt
eq_phase-refl i1 = tt
eq_phase-refl i2 = tt
eq_phase-refl i3 = tt

-- ---- tests of all phases

abbrev pub every_phase : (Phase → Bool) → Bool
every_phase p = (p i0 && p i1) && (p i2 && p i3)

pub at-phase : (p : Phase → Bool) → T (every_phase p) → (k : Phase) → T (p k)
at-phase p t i0 = and_l (p i0) (p i1) (and_l (p i0 && p i1) (p i2 && p i3) t)
at-phase p t i1 = and_r (p i0) (p i1) (and_l (p i0 && p i1) (p i2 && p i3) t)
at-phase p t i2 = and_l (p i2) (p i3) (and_r (p i0 && p i1) (p i2 && p i3) t)
at-phase p t i3 = and_r (p i2) (p i3) (and_r (p i0 && p i1) (p i2 && p i3) t)

-- a test of four phases
pub all-four : (p : Phase → Phase → Phase → Phase → Bool) → T (every_phase (λ k. every_phase (λ l. every_phase (λ m. every_phase (p k l m)))))
    → (k l m n : Phase) → T (p k l m n)
all-four p t k l m n =
    at-phase (p k l m)
    (at-phase (λ m. every_phase (p k l m))
    (at-phase (λ l. every_phase (λ m. every_phase (p k l m))) (at-phase (λ k. every_phase (λ l. every_phase (λ m. every_phase (p k l m)))) t k) l) m) n

pub interchange : (a b c d : Phase) → (a ⊕ b) ⊕ (c ⊕ d) ≡ (a ⊕ c) ⊕ (b ⊕ d)
interchange a b c d =
    eq_phase→ ((a ⊕ b) ⊕ (c ⊕ d)) ((a ⊕ c) ⊕ (b ⊕ d)) (all-four (λ a b c d. eq_phase ((a ⊕ b) ⊕ (c ⊕ d)) ((a ⊕ c) ⊕ (b ⊕ d))) tt a b c d)

pub minus-sum : (a b : Phase) → minus (a ⊕ b) ≡ minus a ⊕ minus b
minus-sum a b =
    eq_phase→ (minus (a ⊕ b)) (minus a ⊕ minus b)
    (at-phase (λ b. eq_phase (minus (a ⊕ b)) (minus a ⊕ minus b))
    (at-phase (λ a. every_phase (λ b. eq_phase (minus (a ⊕ b)) (minus a ⊕ minus b))) tt a) b)

pub cancels : (a b c d : Phase) → ((a ⊕ c) ⊕ (b ⊕ d)) ⊕ minus ((a ⊕ d) ⊕ (b ⊕ c)) ≡ i0
cancels a b c d =
    eq_phase→ (((a ⊕ c) ⊕ (b ⊕ d)) ⊕ minus ((a ⊕ d) ⊕ (b ⊕ c))) i0
    (all-four (λ a b c d. eq_phase (((a ⊕ c) ⊕ (b ⊕ d)) ⊕ minus ((a ⊕ d) ⊕ (b ⊕ c))) i0) tt a b c d)
