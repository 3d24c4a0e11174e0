-- All monomial blocks, by computing with their entries: the images of the four Majorana operators are such operators again, up to sign, where the
-- block fits, and the signed permutation that this gives moves the covariance of basis states as the block moves the bits; where it does not fit,
-- they are the other four. Assumes nothing.
use mathlib.Core.Path.{◌≡◌, refl, ap, subst}
use mathlib.Core.Bool.{Bool, true, false, not, cond, ◌&&◌}
use Prim.Native.Nat.{ℕ, zero, suc, ◌+◌, ◌<◌}
use lib.Dec.{T, ltb, ltb→lt}
use lib.Ieee.Fits.{and_l, and_r}
use Rattle.laws.specs.Phase.{Phase, i0, i1, i2, i3, is_odd}
use Rattle.laws.proofs.Phases.{every_phase, at-phase, eq_phase, eq_phase→}
use Rattle.monomial.specs.Groups.{Four, four}
use Rattle.monomial.specs.Monomial.{Entry, none, any, unit, flip, entries4, w_of, matchgate_phase}
use Rattle.monomial.specs.Basis.{basis, bits, Signed, unit_at}
use Rattle.monomial.proofs.Tests.{every_bit, both-pairs}
use Rattle.monomial.proofs.Permutations.{distinct, carries}
use Rattle.monomial.proofs.Operators.{operator, image4}
use Rattle.monomial.proofs.Images.{signed4}

-- ---- equal matrices

abbrev pub same : Entry → Entry → Bool
same none none = true
same none any = false
same none (unit k) = false
same any e = false
same (unit k) none = false
same (unit k) any = false
same (unit k) (unit l) = eq_phase k l

abbrev same_row : Four Entry → Four Entry → Bool
same_row (four a b c d) (four e f g h) = (same a e && same b f) && (same c g && same d h)

abbrev pub same4 : Four (Four Entry) → Four (Four Entry) → Bool
same4 (four a b c d) (four e f g h) = (same_row a e && same_row b f) && (same_row c g && same_row d h)

-- ---- images

abbrev pub images : Four (Four Entry) → Four (Four (Four Entry))
images u = four (image4 (operator false 0) u) (image4 (operator false 1) u) (image4 (operator false 2) u) (image4 (operator false 3) u)

abbrev pub phase_in : Entry → Phase
phase_in none = i0
phase_in any = i0
phase_in (unit k) = k

-- the phase of the first row, in the column of the second qubit's turn or the first's
abbrev first_phase : Bool → Four (Four Entry) → Phase
first_phase second (four (four a b c d) r s t) = phase_in (cond second b c)

-- the operator that has this phase there: X for 1, Y for -i
abbrev negative : Phase → Bool
negative i0 = false
negative i1 = true
negative i2 = true
negative i3 = false

abbrev pub read_as : Bool → Phase → Signed
read_as second k = unit_at (negative k) (cond second 2 0 + cond (is_odd k) 1 0)

-- a block that exchanges the bits takes the operators of one qubit to those of the other
abbrev pub read_all : Bool → Four (Four (Four Entry)) → Four Signed
read_all s (four a b c d) =
    four (read_as s (first_phase s a)) (read_as s (first_phase s b)) (read_as (not s) (first_phase (not s) c)) (read_as (not s) (first_phase (not s) d))

-- ---- the tests

abbrev pub is_operator : Bool → Four (Four Entry) → Signed → Bool
is_operator others w e = ltb e.at 4 && same4 w (signed4 e.minus (operator others e.at))

abbrev pub are_operators : Bool → Four (Four (Four Entry)) → Four Signed → Bool
are_operators others (four a b c d) (four p q r s) =
    (is_operator others a p && is_operator others b q) && (is_operator others c r && is_operator others d s)

abbrev pub nth : {A : Type 0} → Four A → ℕ → A
nth (four a b c d) zero = a
nth (four a b c d) (suc zero) = b
nth (four a b c d) (suc (suc zero)) = c
nth (four a b c d) (suc (suc (suc i))) = d

-- the covariance of the bits x y becomes that of the bits after
abbrev pub moves : Bool → Bool → Bool → (ℕ → Signed) → Bool → Bool → Bool
moves s f g p x y = carries 4 p (basis (bits x y)) (basis (bits (flip f (cond s y x)) (flip g (cond s x y))))

abbrev pub fits_test : Bool → Bool → Bool → Four Phase → Bool
fits_test s f g k =
    let w = images (entries4 s f g k) in
    let p = read_all s w in
    (are_operators false w p && distinct 4 (nth p)) && every_bit (λ x. every_bit (λ y. moves s f g (nth p) x y))

abbrev pub fails_test : Bool → Bool → Bool → Four Phase → Bool
fails_test s f g k =
    let w = images (entries4 s f g k) in
    are_operators true w (read_all s w)

-- by w; where the sum of the phases is odd nothing is asked
unfoldable pub verdict : Phase → Bool → Bool → Bool → Four Phase → Bool
verdict i0 false f g k = fits_test false f g k
verdict i0 true f g k = fails_test true f g k
verdict i1 s f g k = true
verdict i2 false f g k = fails_test false f g k
verdict i2 true f g k = fits_test true f g k
verdict i3 s f g k = true

abbrev AllPhases : Bool → Bool → Bool → Type 0
AllPhases s f g = T (every_phase (λ k. every_phase (λ l. every_phase (λ m. every_phase (λ n. verdict (w_of (four k l m n)) s f g (four k l m n))))))

-- ---- all blocks

plain : AllPhases false false false
unfolding verdict
plain = tt

turned-b : AllPhases false false true
unfolding verdict
turned-b = tt

turned-a : AllPhases false true false
unfolding verdict
turned-a = tt

turned-both : AllPhases false true true
unfolding verdict
turned-both = tt

swapped : AllPhases true false false
unfolding verdict
swapped = tt

swapped-b : AllPhases true false true
unfolding verdict
swapped-b = tt

swapped-a : AllPhases true true false
unfolding verdict
swapped-a = tt

swapped-both : AllPhases true true true
unfolding verdict
swapped-both = tt

pub all_blocks : (s f g : Bool) (k : Four Phase) → T (verdict (w_of k) s f g k)
all_blocks s f g (four k l m n) =
    at-phase (λ n. verdict (w_of (four k l m n)) s f g (four k l m n))
    (at-phase (λ m. every_phase (λ n. verdict (w_of (four k l m n)) s f g (four k l m n)))
    (at-phase (λ l. every_phase (λ m. every_phase (λ n. verdict (w_of (four k l m n)) s f g (four k l m n))))
    (at-phase (λ k. every_phase (λ l. every_phase (λ m. every_phase (λ n. verdict (w_of (four k l m n)) s f g (four k l m n))))) (by s f g) k) l) m) n
  where
    by : (s f g : Bool) → AllPhases s f g
    by false false false = plain
    by false false true = turned-b
    by false true false = turned-a
    by false true true = turned-both
    by true false false = swapped
    by true false true = swapped-b
    by true true false = swapped-a
    by true true true = swapped-both

pub fits_all : (s f g : Bool) (k : Four Phase) → w_of k ≡ matchgate_phase s → T (fits_test s f g k)
unfolding verdict
fits_all false f g k e = subst (λ (w : Phase). T (verdict w false f g k)) e (all_blocks false f g k)
fits_all true f g k e = subst (λ (w : Phase). T (verdict w true f g k)) e (all_blocks true f g k)

pub fails-all : (s f g : Bool) (k : Four Phase) → w_of k ≡ matchgate_phase (not s) → T (fails_test s f g k)
unfolding verdict
fails-all false f g k e = subst (λ (w : Phase). T (verdict w false f g k)) e (all_blocks false f g k)
fails-all true f g k e = subst (λ (w : Phase). T (verdict w true f g k)) e (all_blocks true f g k)

-- ---- what the tests say

pub same→ : (d e : Entry) → T (same d e) → d ≡ e
same→ none none t = refl
same→ none any t = absurd t
same→ none (unit k) t = absurd t
same→ any e t = absurd t
same→ (unit k) none t = absurd t
same→ (unit k) any t = absurd t
same→ (unit k) (unit l) t = ap unit (eq_phase→ k l t)

same_row→ : (r s : Four Entry) → T (same_row r s) → r ≡ s
same_row→ (four a b c d) (four e f g h) t =
    let p = both-pairs (same a e) (same b f) (same c g) (same d h) t in
    λ i. four (same→ a e p.0 i) (same→ b f p.1 i) (same→ c g p.2 i) (same→ d h p.3 i)

pub same4→ : (v w : Four (Four Entry)) → T (same4 v w) → v ≡ w
same4→ (four a b c d) (four e f g h) t =
    let p = both-pairs (same_row a e) (same_row b f) (same_row c g) (same_row d h) t in
    λ i. four (same_row→ a e p.0 i) (same_row→ b f p.1 i) (same_row→ c g p.2 i) (same_row→ d h p.3 i)

-- each image is the operator that was read
pub each-operator : (others : Bool) (w : Four (Four (Four Entry))) (p : Four Signed) → T (are_operators others w p)
    → T (is_operator others (nth w 0) (nth p 0)) × T (is_operator others (nth w 1) (nth p 1))
    × T (is_operator others (nth w 2) (nth p 2)) × T (is_operator others (nth w 3) (nth p 3))
each-operator others (four a b c d) (four p q r s) t =
    both-pairs (is_operator others a p) (is_operator others b q) (is_operator others c r) (is_operator others d s) t

pub operator-is : (others : Bool) (w : Four (Four Entry)) (e : Signed) → T (is_operator others w e)
    → (e.at < 4) × (w ≡ signed4 e.minus (operator others e.at))
operator-is others w e t =
    let o = signed4 e.minus (operator others e.at) in
    (ltb→lt e.at 4 (and_l (ltb e.at 4) (same4 w o) t), same4→ w o (and_r (ltb e.at 4) (same4 w o) t))
