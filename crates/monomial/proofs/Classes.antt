-- `classify2` on a float matrix with the values of a monomial block of even sum, for every tolerance from 0 to 0.001 and whatever the signs of
-- zeros. A block that fits is diagonal without phase or a matchgate; one that does not is an interaction or neither without relabelling, and with it
-- the same of v = SWAP · u, which fits. Assumes nothing.
use mathlib.Core.Path.{◌≡◌, refl, ap, ◌∙◌, subst}
use mathlib.Core.Bool.{Bool, true, false, not, cond, ◌&&◌, ◌||◌, or-false}
use lib.Ieee.{Float, le}
use Rattle.laws.specs.Phase.{Phase}
use Rattle.num.specs.Order.{min_of}
use Rattle.gate.specs.Complex.{f0, f1}
use Rattle.gate.specs.declared.matrix.Mat4.{Mat4}
use Rattle.named.specs.Table.{gate_swap}
use Rattle.majorana.specs.Majorana.{swap4_of}
use Rattle.classify.specs.declared.classify.Kind2.TheVariants.{Diag, Interaction, Match, NonGaussian}
use Rattle.classify.specs.Diagonal.{interaction_of, phase_none_of}
use Rattle.classify.specs.Classify.{diagonal_of, without_phase_of, residual2_of, class2, plain_of, fallback_of, swapped_of, classify2_of}
use Rattle.monomial.specs.Groups.{Four, four, Mat4Of}
use Rattle.monomial.specs.Monomial.{IsEntry, unit, flip, Mono4, entries4, Has4, diagonal, bit_a, bit_b, w_of, matchgate_phase, IsMatchgate, SwappedMatchgate}
use Rattle.monomial.specs.Algebra.{times4, Even, mono_swap}
use Rattle.monomial.specs.Tolerance.{Tolerance}
use Rattle.monomial.proofs.Complexes.{zero_is}
use Rattle.monomial.proofs.Tolerances.{zero-passes, one-fails}
use Rattle.monomial.proofs.Diagonals.{diagonal-is, phase-w, phase-none, phase-some, interaction-fits}
use Rattle.monomial.proofs.Fitting.{residual-fits, residual-unfit}
use Rattle.monomial.proofs.Algebra.{mul4-has, times-even}
use Rattle.monomial.proofs.Gates.{has-Swap}

-- ---- the exchange

-- the block of v = SWAP · u
abbrev pub swapped : Mono4 → Mono4
swapped b = times4 mono_swap b

pub swapped-has : (u : Mat4) (b : Mono4) → Has4 u b → Has4 (swap4_of u) (swapped b)
unfolding swap4_of
swapped-has u b h = mul4-has gate_swap u mono_swap b has-Swap h

-- "the bits of u are those of v, exchanged"
pub swapped-bit_a : (b : Mono4) (x y : Bool) → bit_b (swapped b) x y ≡ bit_a b x y
swapped-bit_a b x y = by b.swap
  where
    by : (s : Bool) → flip b.turn_a (cond (not s) x y) ≡ flip b.turn_a (cond s y x)
    by false = refl
    by true = refl

pub swapped-bit_b : (b : Mono4) (x y : Bool) → bit_a (swapped b) x y ≡ bit_b b x y
swapped-bit_b b x y = by b.swap
  where
    by : (s : Bool) → flip b.turn_b (cond (not s) y x) ≡ flip b.turn_b (cond s x y)
    by false = refl
    by true = refl

-- the exchange turns fitting into not fitting and back
pub swapped-even : (t : Bool) (b : Mono4) → Even t b → Even t (swapped b)
swapped-even t b h = times-even false t mono_swap b refl h

pub swapped_fits : (b : Mono4) → SwappedMatchgate b → IsMatchgate (swapped b)
swapped_fits b h = swapped-even (not b.swap) b h

-- ---- the tests

-- of a diagonal block only: its phase counts as none where w = 1
without : (tol : Float) → Tolerance tol → (u : Mat4) (s f g t : Bool) (p : Four Phase) → Mat4Of IsEntry u (entries4 s f g p) → w_of p ≡ matchgate_phase t
    → ((not s && (not f && not g)) && phase_none_of tol (interaction_of u)) ≡ ((not s && (not f && not g)) && not t)
without tol ok u true f g t p h e = refl
without tol ok u false true g t p h e = refl
without tol ok u false false true t p h e = refl
without tol ok u false false false false (four k l m n) h e =
    phase-none tol (interaction_of u) ok (interaction-fits u) (subst (λ (w : Phase). IsEntry (interaction_of u) (unit w)) e (phase-w u k l m n h))
without tol ok u false false false true (four k l m n) h e =
    phase-some tol (interaction_of u) (subst (λ (w : Phase). IsEntry (interaction_of u) (unit w)) e (phase-w u k l m n h))

module _ (tol : Float) (ok : Tolerance tol) (u : Mat4) (b : Mono4) (U : Has4 u b) where
  without_is : (t : Bool) → Even t b → without_phase_of tol (diagonal_of tol u) u ≡ (diagonal b && not t)
  unfolding without_phase_of
  without_is t e =
      ap (λ (d : Bool). d && phase_none_of tol (interaction_of u)) (diagonal-is u b U tol ok)
      ∙ without tol ok u b.swap b.turn_a b.turn_b t b.phases U e

  -- where it fits, w = 1 if it is diagonal
  without-fits : IsMatchgate b → without_phase_of tol (diagonal_of tol u) u ≡ diagonal b
  without-fits F = without_is b.swap F ∙ by b.swap (not b.turn_a && not b.turn_b)
    where
      by : (s r : Bool) → ((not s && r) && not s) ≡ (not s && r)
      by false false = refl
      by false true = refl
      by true r = refl

  without-unfit : SwappedMatchgate b → without_phase_of tol (diagonal_of tol u) u ≡ false
  without-unfit F = without_is (not b.swap) F ∙ by b.swap (not b.turn_a && not b.turn_b)
    where
      by : (s r : Bool) → ((not s && r) && not (not s)) ≡ false
      by false false = refl
      by false true = refl
      by true r = refl

  residual-is-0 : IsMatchgate b → residual2_of u ≡ f0
  unfolding residual2_of
  residual-is-0 F = residual-fits u b U F

  residual-is-1 : SwappedMatchgate b → residual2_of u ≡ f1
  unfolding residual2_of
  residual-is-1 F = residual-unfit u b U F

  match-fits : IsMatchgate b → le (residual2_of u) tol ≡ true
  match-fits F = ap (λ (r : Float). le r tol) (residual-is-0 F) ∙ zero-passes f0 tol ok zero_is

  match-unfit : SwappedMatchgate b → le (residual2_of u) tol ≡ false
  match-unfit F = ap (λ (r : Float). le r tol) (residual-is-1 F) ∙ one-fails tol ok

-- in the second case d is false
second-case : {A : Type 0} (d : Bool) (x : A) (y : Bool → A) → cond d x (y d) ≡ cond d x (y false)
second-case false x y = refl
second-case true x y = refl

-- ---- the classes

module _ (tol : Float) (ok : Tolerance tol) (u : Mat4) (b : Mono4) (U : Has4 u b) where
  -- a block that fits, with or without relabelling
  pub classify-fits : (relabel : Bool) → IsMatchgate b
      → classify2_of relabel tol u ≡ cond (diagonal b) (class2 Diag false u true) (class2 (Match f0) false u false)
  unfolding classify2_of
  classify-fits relabel F =
      (λ i. cond (without-fits tol ok u b U F i) (class2 Diag false u true)
      (cond (match-fits tol ok u b U F i) (class2 (Match (residual-is-0 tol ok u b U F i)) false u (diagonal-is u b U tol ok i))
      (cond relabel (swapped_of tol (diagonal_of tol u) (residual2_of u) u (swap4_of u)) (plain_of (diagonal_of tol u) (residual2_of u) u))))
      ∙ second-case (diagonal b) (class2 Diag false u true) (λ d. class2 (Match f0) false u d)

  -- a block that does not fit, without relabelling
  pub classify-unfit : SwappedMatchgate b
      → classify2_of false tol u ≡ cond (diagonal b) (class2 Interaction false u true) (class2 (NonGaussian f1) false u false)
  unfolding classify2_of plain_of
  classify-unfit F =
      λ i. cond (without-unfit tol ok u b U F i) (class2 Diag false u true)
      (cond (match-unfit tol ok u b U F i) (class2 (Match (residual2_of u)) false u (diagonal_of tol u))
      (cond (diagonal-is u b U tol ok i) (class2 Interaction false u true) (class2 (NonGaussian (residual-is-1 tol ok u b U F i)) false u false)))

  -- v = SWAP · u, which fits
  swapped-class : SwappedMatchgate b
      → swapped_of tol (diagonal_of tol u) (residual2_of u) u (swap4_of u)
      ≡ cond (diagonal (swapped b)) (class2 Diag true (swap4_of u) true) (class2 (Match f0) true (swap4_of u) (diagonal b || false))
  unfolding swapped_of
  swapped-class F =
      let v = swap4_of u in
      let c = swapped b in
      let H = swapped-has u b U in
      let G = swapped_fits b F in
      (λ i. cond (without-fits tol ok v c H G i) (class2 Diag true v true)
      (cond (match-fits tol ok v c H G i)
      (class2 (Match (residual-is-0 tol ok v c H G i)) true v (diagonal-is u b U tol ok i || diagonal-is v c H tol ok i))
      (fallback_of (diagonal_of tol u) (diagonal_of tol v) (min_of (residual2_of u) (residual2_of v)) u v)))
      ∙ second-case (diagonal c) (class2 Diag true v true) (λ d. class2 (Match f0) true v (diagonal b || d))

  -- a block that does not fit, with relabelling
  pub classify-swapped : SwappedMatchgate b
      → classify2_of true tol u
      ≡ cond (diagonal (swapped b)) (class2 Diag true (swap4_of u) true) (class2 (Match f0) true (swap4_of u) (diagonal b))
  unfolding classify2_of
  classify-swapped F =
      (λ i. cond (without-unfit tol ok u b U F i) (class2 Diag false u true)
      (cond (match-unfit tol ok u b U F i) (class2 (Match (residual2_of u)) false u (diagonal_of tol u))
      (swapped-class F i)))
      ∙ ap (λ (d : Bool). cond (diagonal (swapped b)) (class2 Diag true (swap4_of u) true) (class2 (Match f0) true (swap4_of u) d))
      (or-false (diagonal b))
