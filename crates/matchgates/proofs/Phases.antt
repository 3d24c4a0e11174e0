-- A phase is a rotation, and a matchgate. Assumes nothing.
use mathlib.Core.Path.{◌≡◌, refl, sym, ap, ◌∙◌}
use mathlib.Core.Logic.{inl}
use mathlib.Core.Bool.{Bool, xor}
use mathlib.Core.List.{List, [], ◌∷◌}
use Prim.Native.Nat.{ℕ, zero, suc, ◌<◌}
use Rattle.rings.specs.Rings.{Ops}
use Rattle.formulas.specs.Numbers.{Tests, Divides}
use Rattle.formulas.specs.Engine.{Mat, dot}
use Rattle.matchgates.specs.Matrices.{product, identity, trace}
use Rattle.matchgates.specs.Maps.{adjoint, Still, Unitary}
use Rattle.matchgates.specs.Complex.{Pair, complex, Real}
use Rattle.matchgates.specs.Words.{single_of, dag_of, mul2_of, less_of, image_of, majoranas_of, entry_of}
use Rattle.matchgates.specs.Regrouped.{phase}
use Rattle.matchgates.specs.Phases.{rotation, PhasesTurn}
use Rattle.rings.proofs.Solve.{Exp, var, nought, plus, times, minus, exps, by-comm}
use Rattle.laws.proofs.Below.{below-two}
use Rattle.matchgates.proofs.Complex.{two, ℂE, exact, conjugate, law, valued}
use Rattle.matchgates.proofs.Words.{over-double, in-words}

-- ---- terms: e is the pair of var 0 and var 1

abbrev phase_e : Mat ℂE
phase_e = phase ℂE (two 0 1)

-- u* c_a u
abbrev image_e : ℕ → Mat ℂE
image_e a = mul2_of exps (dag_of exps phase_e) (mul2_of exps (single_of exps a) phase_e)

-- the real part of Tr(c_b u* c_a u)
abbrev trace_e : ℕ → ℕ → Exp
trace_e a b = (trace ℂE 2 (single_of exps b) (image_e a) 2).re

-- u* u, and u u*
abbrev after_e : Mat ℂE
after_e = product ℂE 2 (dag_of exps phase_e) phase_e

abbrev before_e : Mat ℂE
before_e = product ℂE 2 phase_e (dag_of exps phase_e)

-- what is left of it
abbrev left_e : ℕ → Mat ℂE
left_e a = less_of exps 1 (image_e a) (rotation exps (two 0 1) a) 2

module _ {𝓡 : Ops} {below : 𝓡.N → Bool} (𝓕 : Real 𝓡 below) {𝓣 : Tests 𝓡} (𝓥 : Divides 𝓡 𝓣) (e : Pair 𝓡) where
  abbrev ℂ : Ops
  ℂ = complex 𝓡

  abbrev u : Mat ℂ
  u = phase ℂ e

  abbrev values : List 𝓡.N
  values = e.re ∷ e.im ∷ []

  -- s / 2
  abbrev over : 𝓡.N → 𝓡.N
  over s = 𝓣.div s (𝓡.add 𝓡.one 𝓡.one)

  turning : (a b : ℕ) → entry_of 𝓡 𝓣 1 u a b ≡ rotation 𝓡 e a b
  unfolding xor
  turning zero zero = ap over (by-comm 𝓕.laws values (trace_e 0 0) (plus (var 0) (var 0)) refl) ∙ over-double 𝓕 𝓥 e.re
  turning zero (suc b) =
      ap over (by-comm 𝓕.laws values (trace_e 0 1) (plus (minus (var 1)) (minus (var 1))) refl) ∙ over-double 𝓕 𝓥 (𝓡.neg e.im)
  turning (suc a) zero = ap over (by-comm 𝓕.laws values (trace_e 1 0) (plus (var 1) (var 1)) refl) ∙ over-double 𝓕 𝓥 e.im
  turning (suc a) (suc b) = ap over (by-comm 𝓕.laws values (trace_e 1 1) (plus (var 0) (var 0)) refl) ∙ over-double 𝓕 𝓥 e.re

  -- nothing is left
  abbrev left : Mat ℂ → ℕ → Mat ℂ
  left w a = less_of 𝓡 1 w (rotation 𝓡 e a) 2

  gone : (a r c : ℕ) → a < 2 → r < 2 → c < 2 → left (image_of 𝓡 𝓣 1 (majoranas_of 𝓡 1 a) u) a r c ≡ ℂ.zero
  unfolding xor
  gone a r c ha hr hc =
      below-two (λ a. left (image_of 𝓡 𝓣 1 (majoranas_of 𝓡 1 a) u) a r c ≡ ℂ.zero)
      (below-two (λ r. left (image_of 𝓡 𝓣 1 (majoranas_of 𝓡 1 0) u) 0 r c ≡ ℂ.zero)
      (below-two (λ c. left (image_of 𝓡 𝓣 1 (majoranas_of 𝓡 1 0) u) 0 0 c ≡ ℂ.zero)
      (law 𝓕 values (left_e 0 0 0) ℂE.zero refl refl) (law 𝓕 values (left_e 0 0 1) ℂE.zero refl refl) c hc)
      (below-two (λ c. left (image_of 𝓡 𝓣 1 (majoranas_of 𝓡 1 0) u) 0 1 c ≡ ℂ.zero)
      (law 𝓕 values (left_e 0 1 0) ℂE.zero refl refl) (law 𝓕 values (left_e 0 1 1) ℂE.zero refl refl) c hc) r hr)
      (below-two (λ r. left (image_of 𝓡 𝓣 1 (majoranas_of 𝓡 1 1) u) 1 r c ≡ ℂ.zero)
      (below-two (λ c. left (image_of 𝓡 𝓣 1 (majoranas_of 𝓡 1 1) u) 1 0 c ≡ ℂ.zero)
      (law 𝓕 values (left_e 1 0 0) ℂE.zero refl refl) (law 𝓕 values (left_e 1 0 1) ℂE.zero refl refl) c hc)
      (below-two (λ c. left (image_of 𝓡 𝓣 1 (majoranas_of 𝓡 1 1) u) 1 1 c ≡ ℂ.zero)
      (law 𝓕 values (left_e 1 1 0) ℂE.zero refl refl) (law 𝓕 values (left_e 1 1 1) ℂE.zero refl refl) c hc) r hr) a ha

  nothing-left : Still (exact 𝓕) (conjugate 𝓕) 1 u
  nothing-left a r c ha hr hc =
      sym ((in-words 𝓕 𝓥).in-rest 1 (inl refl) u a r c)
      ∙ (λ i. less_of 𝓡 1 (image_of 𝓡 𝓣 1 (majoranas_of 𝓡 1 a) u) (λ b. turning a b i) 2 r c)
      ∙ gone a r c ha hr hc

  -- ---- of size 1

  module _ (size : 𝓡.add (𝓡.mul e.re e.re) (𝓡.mul e.im e.im) ≡ 𝓡.one) where
    abbrev size_e : Pair exps
    size_e = record { re = plus (times (var 0) (var 0)) (times (var 1) (var 1)); im = nought }

    one-of : valued 𝓕 values size_e ≡ ℂ.one
    one-of = λ i. record { re = size i; im = 𝓡.zero }

    inverse : Unitary (conjugate 𝓕) 2 u
    unfolding dot xor
    inverse = record {
      after-u = λ r c hr hc.
          below-two (λ r. product ℂ 2 (adjoint (conjugate 𝓕) u) u r c ≡ identity ℂ r c)
          (below-two (λ c. product ℂ 2 (adjoint (conjugate 𝓕) u) u 0 c ≡ identity ℂ 0 c)
          (law 𝓕 values (after_e 0 0) ℂE.one refl refl) (law 𝓕 values (after_e 0 1) ℂE.zero refl refl) c hc)
          (below-two (λ c. product ℂ 2 (adjoint (conjugate 𝓕) u) u 1 c ≡ identity ℂ 1 c)
          (law 𝓕 values (after_e 1 0) ℂE.zero refl refl) (law 𝓕 values (after_e 1 1) size_e refl refl ∙ one-of) c hc) r hr;
      before-u = λ r c hr hc.
          below-two (λ r. product ℂ 2 u (adjoint (conjugate 𝓕) u) r c ≡ identity ℂ r c)
          (below-two (λ c. product ℂ 2 u (adjoint (conjugate 𝓕) u) 0 c ≡ identity ℂ 0 c)
          (law 𝓕 values (before_e 0 0) ℂE.one refl refl) (law 𝓕 values (before_e 0 1) ℂE.zero refl refl) c hc)
          (below-two (λ c. product ℂ 2 u (adjoint (conjugate 𝓕) u) 1 c ≡ identity ℂ 1 c)
          (law 𝓕 values (before_e 1 0) ℂE.zero refl refl) (law 𝓕 values (before_e 1 1) size_e refl refl ∙ one-of) c hc) r hr;
    }

pub phases-turn : {𝓡 : Ops} {below : 𝓡.N → Bool} (𝓕 : Real 𝓡 below) {𝓣 : Tests 𝓡} → Divides 𝓡 𝓣 → PhasesTurn 𝓣 (exact 𝓕) (conjugate 𝓕)
phases-turn 𝓕 𝓥 = record { turns = turning 𝓕 𝓥; still = nothing-left 𝓕 𝓥; unitary = inverse 𝓕 𝓥 }
