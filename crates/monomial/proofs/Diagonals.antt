-- Diagonal monomial blocks and the off-diagonal test, for float matrices with their values whatever the signs of zeros: the off-diagonal norm is 0
-- exactly if the block is diagonal, and else the root of 2 or 2; p_a, p_b and w are phases; a phase is its own unit. Assumes nothing.
use mathlib.Core.Path.{◌≡◌, refl, sym, ap, ◌∙◌, subst}
use mathlib.Core.Bool.{Bool, true, false, not, cond, ◌&&◌}
use Prim.Native.Nat.{ℕ}
use lib.Dec.{T, lit<}
use lib.IntN.{ℤ, pos, negsuc}
use lib.Ieee.{Float, binary64, mul, div, lt, le, fits, of_bits}
use lib.Ieee.Bits.{of_bits-fits}
use lib.Ieee.Scale.{finite}
use lib.Ieee.Fits.{add-fits, sub-fits}
use Rattle.laws.specs.Dyadic.{Dy}
use Rattle.laws.specs.Zeros.{+1}
use Rattle.laws.specs.Phase.{Phase, i0, i2, ◌⊕◌, minus, real_z, imag_z}
use Rattle.laws.proofs.Zeros.{one-bits}
use Rattle.laws.proofs.Fit.{times-one}
use Rattle.laws.proofs.DyadicOrder.{lt-dy}
use Rattle.laws.proofs.DyadicFloat.{is-float}
use Rattle.num.specs.Order.{abs_of}
use Rattle.num.proofs.Alike.{abs-dy}
use Rattle.gate.specs.Complex.{◌*ℂ◌, conj_of, norm_sqr_of, cx, f0, f1, c1, f2}
use Rattle.gate.specs.declared.complex.Complex.{Complex}
use Rattle.gate.specs.declared.matrix.Mat4.{Mat4}
use Rattle.classify.specs.Diagonal.{plus_three_of, off_square_of, offdiag4_of, phase_a_of, phase_b_of, interaction_of, phase_none_of, norm_of, unit_of}
use Rattle.classify.specs.Classify.{diagonal_of}
use Rattle.monomial.specs.Groups.{Four, four, Mat4Of}
use Rattle.monomial.specs.Monomial.{Entry, unit, IsEntry, Mono4, entries4, entries_of, Has4, diagonal, w_of}
use Rattle.monomial.specs.Tolerance.{Tolerance}
use Rattle.monomial.proofs.Known.{Known, kn, add_k, div_k, IsKnown, add-known, div_known}
use Rattle.monomial.proofs.Complexes.{k0, zero_is, zero-known}
use Rattle.monomial.proofs.Entries.{square, square-law, entry_sound, by-phase, to-complex}
use Rattle.monomial.proofs.Operators.{one-is}
use Rattle.monomial.proofs.Roots.{√2, root-zero, root-one, root-two, root-four}
use Rattle.monomial.proofs.Tolerances.{zero-passes, √2-fails, two-fails}

-- ---- the off-diagonal norm

abbrev plus_three : Known → Entry → Entry → Entry → Known
plus_three s a b c = add_k (add_k (add_k s (square a)) (square b)) (square c)

abbrev off_square : Four (Four Entry) → Known
off_square (four (four a b c d) (four e f g h) (four i j k l) (four m n o p)) =
    plus_three (plus_three (plus_three (plus_three k0 b c d) e g h) i j l) m n o

plus_three-law : (s : Float) (x y z : Complex) (t : Known) (a b c : Entry) → IsKnown s t → IsEntry x a → IsEntry y b → IsEntry z c
    → IsKnown (plus_three_of s x y z) (plus_three t a b c)
unfolding plus_three_of
plus_three-law s x y z t a b c h k l m =
    add-known _ (norm_sqr_of z) (add_k (add_k t (square a)) (square b)) (square c)
    (add-known _ (norm_sqr_of y) (add_k t (square a)) (square b) (add-known s (norm_sqr_of x) t (square a) h (square-law x a k)) (square-law y b l))
    (square-law z c m)

off_square-law : (u : Mat4) (e : Four (Four Entry)) → Mat4Of IsEntry u e → IsKnown (off_square_of u) (off_square e)
unfolding off_square_of
off_square-law u (four (four a b c d) (four e f g h) (four i j k l) (four m n o p)) r =
    plus_three-law _ u.r3.c0 u.r3.c1 u.r3.c2 (plus_three (plus_three (plus_three k0 b c d) e g h) i j l) m n o
    (plus_three-law _ u.r2.c0 u.r2.c1 u.r2.c3 (plus_three (plus_three k0 b c d) e g h) i j l
    (plus_three-law _ u.r1.c0 u.r1.c2 u.r1.c3 (plus_three k0 b c d) e g h
    (plus_three-law f0 u.r0.c1 u.r0.c2 u.r0.c3 k0 b c d zero-known r.0.1 r.0.2 r.0.3)
    r.1.0 r.1.2 r.1.3) r.2.0 r.2.1 r.2.3) r.3.0 r.3.1 r.3.2

-- how many entries stand off the diagonal
abbrev pub off_count : Bool → Bool → Bool → ℕ
off_count false false false = 0
off_count false false true = 4
off_count false true g = 4
off_count true false false = 2
off_count true false true = 4
off_count true true false = 4
off_count true true true = 2

off-counted : (s f g : Bool) (k : Four Phase) → off_square (entries4 s f g k) ≡ kn (pos (off_count s f g))
off-counted false false false (four k l m n) = refl
off-counted false false true (four k l m n) = refl
off-counted false true false (four k l m n) = refl
off-counted false true true (four k l m n) = refl
off-counted true false false (four k l m n) = refl
off-counted true false true (four k l m n) = refl
off-counted true true false (four k l m n) = refl
off-counted true true true (four k l m n) = refl

off_square-fits : (u : Mat4) → T (fits binary64 (off_square_of u))
unfolding off_square_of plus_three_of
off_square-fits u = add-fits binary64 _ _

module _ (u : Mat4) (b : Mono4) (U : Has4 u b) where
  off-value : Dy 0 (pos (off_count b.swap b.turn_a b.turn_b)) (off_square_of u)
  off-value = (subst (IsKnown (off_square_of u)) (off-counted b.swap b.turn_a b.turn_b b.phases) (off_square-law u (entries_of b) U)).1

  -- the off-diagonal norm is a zero, or the root of 2, or 2
  abbrev pub NormIs : Bool → Bool → Bool → Type 0
  NormIs false false false = Dy 0 (pos 0) (offdiag4_of u)
  NormIs false false true = offdiag4_of u ≡ f2
  NormIs false true g = offdiag4_of u ≡ f2
  NormIs true false false = offdiag4_of u ≡ √2
  NormIs true false true = offdiag4_of u ≡ f2
  NormIs true true false = offdiag4_of u ≡ f2
  NormIs true true true = offdiag4_of u ≡ √2

  pub off-norm : NormIs b.swap b.turn_a b.turn_b
  unfolding offdiag4_of
  off-norm = by b.swap b.turn_a b.turn_b off-value
    where
      f : T (fits binary64 (off_square_of u))
      f = off_square-fits u

      by : (s f g : Bool) → Dy 0 (pos (off_count s f g)) (off_square_of u) → NormIs s f g
      by false false false d = subst (Dy 0 (pos 0)) (sym (root-zero (off_square_of u) d)) d
      by false false true d = root-four (off_square_of u) f d
      by false true g d = root-four (off_square_of u) f d
      by true false false d = root-two (off_square_of u) f d
      by true false true d = root-four (off_square_of u) f d
      by true true false d = root-four (off_square_of u) f d
      by true true true d = root-two (off_square_of u) f d

  -- the off-diagonal test says whether the block is diagonal
  pub diagonal-is : (tol : Float) → Tolerance tol → diagonal_of tol u ≡ diagonal b
  unfolding diagonal_of
  diagonal-is tol t = by b.swap b.turn_a b.turn_b off-norm
    where
      by : (s f g : Bool) → NormIs s f g → le (offdiag4_of u) tol ≡ (not s && (not f && not g))
      by false false false d = zero-passes (offdiag4_of u) tol t d
      by false false true e = ap (λ (x : Float). le x tol) e ∙ two-fails tol t
      by false true g e = ap (λ (x : Float). le x tol) e ∙ two-fails tol t
      by true false false e = ap (λ (x : Float). le x tol) e ∙ √2-fails tol t
      by true false true e = ap (λ (x : Float). le x tol) e ∙ two-fails tol t
      by true true false e = ap (λ (x : Float). le x tol) e ∙ two-fails tol t
      by true true true e = ap (λ (x : Float). le x tol) e ∙ √2-fails tol t

-- ---- the phases of a diagonal block

module _ (u : Mat4) (k l m n : Phase) (U : Mat4Of IsEntry u (entries4 false false false (four k l m n))) where
  -- "p_a = d2·conj(d0)"
  pub phase-a : IsEntry (phase_a_of u) (unit (m ⊕ minus k))
  unfolding phase_a_of
  phase-a = entry_sound.mul u.r2.c2 (conj_of u.r0.c0) (unit m) (unit (minus k)) U.2.2 (entry_sound.conj u.r0.c0 (unit k) U.0.0)

  -- "p_b = d1·conj(d0)"
  pub phase-b : IsEntry (phase_b_of u) (unit (l ⊕ minus k))
  unfolding phase_b_of
  phase-b = entry_sound.mul u.r1.c1 (conj_of u.r0.c0) (unit l) (unit (minus k)) U.1.1 (entry_sound.conj u.r0.c0 (unit k) U.0.0)

  -- "w = (d0·d3)·conj(d1·d2)"
  pub phase-w : IsEntry (interaction_of u) (unit (w_of (four k l m n)))
  unfolding interaction_of
  phase-w =
      entry_sound.mul (u.r0.c0 *ℂ u.r3.c3) (conj_of (u.r1.c1 *ℂ u.r2.c2)) (unit (k ⊕ n)) (unit (minus (l ⊕ m)))
      (entry_sound.mul u.r0.c0 u.r3.c3 (unit k) (unit n) U.0.0 U.3.3)
      (entry_sound.conj (u.r1.c1 *ℂ u.r2.c2) (unit (l ⊕ m)) (entry_sound.mul u.r1.c1 u.r2.c2 (unit l) (unit m) U.1.1 U.2.2))

-- ---- "The phase counts as none"

-- w = 1: yes
pub phase-none : (tol : Float) (w : Complex) → Tolerance tol → T (fits binary64 w.re) → IsEntry w (unit i0) → phase_none_of tol w ≡ true
unfolding phase_none_of
phase-none tol w t f h =
    ap (λ (b : Bool). b && le (abs_of w.im) (mul binary64 tol w.re)) (lt-dy 0 (pos 0) (pos 1) f0 w.re zero_is h.0)
    ∙ ap (λ (x : Float). le (abs_of w.im) x) (ap (mul binary64 tol) one ∙ times-one tol t.held)
    ∙ zero-passes (abs_of w.im) tol t (abs-dy 0 (pos 0) w.im h.1)
  where
    one : w.re ≡ +1
    one = is-float 0 (pos 1) w.re f1 (lit< tt) f (of_bits-fits binary64 0x3ff0_0000_0000_0000) h.0 one-is ∙ one-bits

-- w = -1: no
pub phase-some : (tol : Float) (w : Complex) → IsEntry w (unit i2) → phase_none_of tol w ≡ false
unfolding phase_none_of
phase-some tol w h = ap (λ (b : Bool). b && le (abs_of w.im) (mul binary64 tol w.re)) (lt-dy 0 (pos 0) (negsuc 0) f0 w.re zero_is h.0)

pub interaction-fits : (u : Mat4) → T (fits binary64 (interaction_of u).re)
unfolding interaction_of
interaction-fits u = sub-fits binary64 _ _

-- ---- units

finite-one : finite f1 ≡ true
unfolding of_bits
finite-one = refl

-- a part divided by 1
part-by-one : (x : Float) (z : ℤ) → div_k (kn z) (kn (pos 1)) ≡ kn z → IsKnown x (kn z) → Dy 0 z (div binary64 x f1)
part-by-one x z e h = (subst (IsKnown (div binary64 x f1)) e (div_known x f1 (kn z) (kn (pos 1)) h (lit< tt, one-is))).1

real-by-one : (k : Phase) → div_k (kn (real_z k)) (kn (pos 1)) ≡ kn (real_z k)
real-by-one = by-phase (λ k. div_k (kn (real_z k)) (kn (pos 1)) ≡ kn (real_z k)) refl refl refl refl

imag-by-one : (k : Phase) → div_k (kn (imag_z k)) (kn (pos 1)) ≡ kn (imag_z k)
imag-by-one = by-phase (λ k. div_k (kn (imag_z k)) (kn (pos 1)) ≡ kn (imag_z k)) refl refl refl refl

module _ (p : Complex) (k : Phase) (P : IsEntry p (unit k)) where
  norm-one : norm_of p ≡ f1
  unfolding norm_of
  norm-one = root-one (norm_sqr_of p) (add-fits binary64 _ _) (square-law p (unit k) P).1

  divided : unit_of p ≡ cx (div binary64 p.re f1) (div binary64 p.im f1)
  unfolding unit_of
  divided =
      ap (λ (n : Float). cond (lt f0 n && finite n) (cx (div binary64 p.re n) (div binary64 p.im n)) c1) norm-one
      ∙ (λ t. cond (lt-dy 0 (pos 0) (pos 1) f0 f1 zero_is one-is t && finite-one t) (cx (div binary64 p.re f1) (div binary64 p.im f1)) c1)

  -- a phase is its own unit
  pub unit-is : IsEntry (unit_of p) (unit k)
  unit-is =
      let h = to-complex p (unit k) P in
      subst (λ (c : Complex). IsEntry c (unit k)) (sym divided)
      (part-by-one p.re (real_z k) (real-by-one k) h.0, part-by-one p.im (imag_z k) (imag-by-one k) h.1)
