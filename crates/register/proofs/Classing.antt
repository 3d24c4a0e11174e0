-- What the blocks of a register tape are classified as, for every tolerance from 0 to 0.001: those with an even sum of phases, with and without
-- relabelling, and those that fit. Assumes nothing.
use mathlib.Core.Path.{◌≡◌, refl, sym, ◌∙◌, subst}
use mathlib.Core.Logic.{◌⊎◌, inl, inr}
use mathlib.Core.Bool.{Bool, true, false, not, cond}
use lib.Dec.{T}
use lib.Ieee.{Float}
use Rattle.laws.specs.Phase.{Phase, i0, i2}
use Rattle.laws.proofs.Phases.{eq_phase}
use Rattle.gate.specs.Complex.{f0, f1}
use Rattle.gate.specs.declared.matrix.Mat4.{Mat4}
use Rattle.majorana.specs.Majorana.{swap4_of}
use Rattle.classify.specs.Classify.{class2, classify2_of}
use Rattle.classify.specs.declared.classify.Kind2.{Kind2}
use Rattle.classify.specs.declared.classify.Kind2.TheVariants.{Diag, Interaction, Match, NonGaussian}
use Rattle.monomial.specs.Monomial.{flip, Mono4, Has4, diagonal, w_of, matchgate_phase, IsMatchgate, SwappedMatchgate}
use Rattle.monomial.specs.Algebra.{Even}
use Rattle.monomial.specs.Tolerance.{Tolerance}
use Rattle.monomial.proofs.Algebra.{times-even, kron-even, renamed-even, times-fits, kron-fits, renamed-fits}
use Rattle.monomial.proofs.Classes.{swapped, swapped-has, swapped-bit_a, swapped-bit_b, swapped-even, swapped_fits, classify-fits, classify-unfit, classify-swapped}
use Rattle.resolve.specs.Items.{kind_of}
use Rattle.register.specs.Blocks.{Closed, EvenSum, KindIs, ClassIs, Rules}

fit-or-not : (b : Mono4) (t : Bool) → Even t b → IsMatchgate b ⊎ SwappedMatchgate b
fit-or-not b t e = by b.swap t e
  where
    by : (s t : Bool) → w_of b.phases ≡ matchgate_phase t → (w_of b.phases ≡ matchgate_phase s) ⊎ (w_of b.phases ≡ matchgate_phase (not s))
    by false false e = inl e
    by false true e = inr e
    by true false e = inr e
    by true true e = inl e

-- and never both
pub not-both : (b : Mono4) → IsMatchgate b → SwappedMatchgate b → ⊥
not-both b F U = by b.swap (sym F ∙ U)
  where
    by : (s : Bool) → matchgate_phase s ≡ matchgate_phase (not s) → ⊥
    by false e = subst (λ (k : Phase). T (eq_phase i0 k)) e tt
    by true e = subst (λ (k : Phase). T (eq_phase i2 k)) e tt

module _ (tol : Float) (ok : Tolerance tol) (u : Mat4) (b : Mono4) (U : Has4 u b) where
  -- a block that stays as it is
  as-it-is : {relabel : Bool} {Q : Mono4 → Type 0} {Still : Type 0} (k : Kind2) (a : Bool) → Q b → KindIs relabel b (kind_of k)
      → ClassIs relabel Q Still b (class2 k false u a)
  as-it-is k a q says =
      record { block = b; has = U; within = q; kind = says; first = λ x y. refl; second = λ x y. refl; still = λ s. refl }

  -- one that is SWAP · v
  exchanged : (k : Kind2) (a : Bool) → EvenSum b → KindIs true (swapped b) (kind_of k) → ClassIs true EvenSum ⊥ b (class2 k true (swap4_of u) a)
  exchanged k a q says = record {
    block = swapped b;
    has = swapped-has u b U;
    within = (q.0, swapped-even q.0 b q.1);
    kind = says;
    first = λ x y. sym (swapped-bit_a b x y);
    second = λ x y. sym (swapped-bit_b b x y);
    still = λ s. absurd s;
  }

  -- a block that fits
  pub fit-class : (relabel : Bool) (Q : Mono4 → Type 0) (Still : Type 0) → Q b → IsMatchgate b → ClassIs relabel Q Still b (classify2_of relabel tol u)
  fit-class relabel Q Still q F = subst (ClassIs relabel Q Still b) (sym (classify-fits tol ok u b U relabel F)) (by (diagonal b) refl)
    where
      by : (d : Bool) → diagonal b ≡ d → ClassIs relabel Q Still b (cond d (class2 Diag false u true) (class2 (Match f0) false u false))
      by true e = as-it-is Diag true q (F, e)
      by false e = as-it-is (Match f0) false q (F, e)

  -- one that does not, without relabelling
  unfit-class : EvenSum b → SwappedMatchgate b → ClassIs false EvenSum ⊥ b (classify2_of false tol u)
  unfit-class q F = subst (ClassIs false EvenSum ⊥ b) (sym (classify-unfit tol ok u b U F)) (by (diagonal b) refl)
    where
      by : (d : Bool) → diagonal b ≡ d → ClassIs false EvenSum ⊥ b (cond d (class2 Interaction false u true) (class2 (NonGaussian f1) false u false))
      by true e = as-it-is Interaction true q (refl, F, e)
      by false e = as-it-is (NonGaussian f1) false q (refl, F, e)

  -- and with it, where v fits
  swapped-class : EvenSum b → SwappedMatchgate b → ClassIs true EvenSum ⊥ b (classify2_of true tol u)
  swapped-class q F = subst (ClassIs true EvenSum ⊥ b) (sym (classify-swapped tol ok u b U F)) (by (diagonal (swapped b)) refl)
    where
      by : (d : Bool) → diagonal (swapped b) ≡ d
          → ClassIs true EvenSum ⊥ b (cond d (class2 Diag true (swap4_of u) true) (class2 (Match f0) true (swap4_of u) (diagonal b)))
      by true e = exchanged Diag true q (swapped_fits b F, e)
      by false e = exchanged (Match f0) (diagonal b) q (swapped_fits b F, e)

  pub even-class : (relabel : Bool) → EvenSum b → ClassIs relabel EvenSum ⊥ b (classify2_of relabel tol u)
  even-class relabel q = by (fit-or-not b q.0 q.1) relabel
    where
      by : IsMatchgate b ⊎ SwappedMatchgate b → (relabel : Bool) → ClassIs relabel EvenSum ⊥ b (classify2_of relabel tol u)
      by (inl F) relabel = fit-class relabel EvenSum ⊥ q F
      by (inr F) false = unfit-class q F
      by (inr F) true = swapped-class q F

-- ---- the two classes of blocks

pub even-closed : Closed EvenSum
even-closed = record {
  kron = λ b c. (false, kron-even b c);
  times = λ b c p q. (flip p.0 q.0, times-even p.0 q.0 b c p.1 q.1);
  renaming = λ b p. (p.0, renamed-even p.0 b p.1);
}

pub fits-closed : Closed IsMatchgate
fits-closed = record { kron = kron-fits; times = times-fits; renaming = renamed-fits }

-- all blocks of a register tape
abbrev pub even_rules : (relabel : Bool) (tol : Float) → Tolerance tol → Rules relabel tol
even_rules relabel tol ok = record { Q = EvenSum; Still = ⊥; closed = even-closed; class = λ u b h q. even-class tol ok u b h relabel q }

-- those of one without Swap
abbrev pub fit_rules : (relabel : Bool) (tol : Float) → Tolerance tol → Rules relabel tol
fit_rules relabel tol ok = record {
  Q = IsMatchgate;
  Still = Unit {0};
  closed = fits-closed;
  class = λ u b h q. fit-class tol ok u b h relabel IsMatchgate (Unit {0}) q q;
}
