-- FUSING IS RIGHT: the fused matrix is all the gates, and a list of fused blocks is the circuit of their gates. Assumes nothing.
use mathlib.Core.Path.{◌≡◌, refl, sym, ap, ◌∙◌}
use mathlib.Core.Logic.{◌≢◌}
use mathlib.Core.Bool.{Bool, false}
use mathlib.Core.List.{List, [], ◌∷◌, map}
use Prim.Native.Nat.{ℕ, suc, ◌+◌, ◌/◌, ◌%◌, ◌≤◌, ◌<◌}
use native.Mathlib.Omega.{arith}
use Rattle.rings.specs.Rings.{Ops, IsRing}
use Rattle.formulas.specs.Numbers.{Exact, Tests, Divides}
use Rattle.formulas.specs.Engine.{Mat, Local, Item, applied, interaction, each, run, vacuum, get}
use Rattle.formulas.specs.Determinants.{odd, own_odd}
use Rattle.angles.specs.Qubits.{z, Operators}
use Rattle.angles.specs.Angles.{entry_of}
use Rattle.matchgates.specs.Matrices.{product, identity}
use Rattle.matchgates.specs.Maps.{Conjugate, adjoint}
use Rattle.matchgates.specs.Gates.{on_one, placed, on, Gate, computed, through, RightEntries, expected, EveryGate}
use Rattle.matchgates.specs.Circuits.{one, forth, back, conjugated}
use Rattle.matchgates.specs.Fused.{Part, singles, both, turned, in_time, time_product, part_matrix, part_acts, parts_acts}
use Rattle.matchgates.specs.Fused.{FusedRight, EveryFused, Gathered, lone, pair, modes_of, matrix_of, acts_from, Fusion, fusion_gate, fusions_acts, EveryFusion}
use Rattle.angles.proofs.Passing.{Pass, pass-back}
use Rattle.matchgates.proofs.Placed.{one-same, one-times, one-whole, one-commutes, placed-same, placed-times, placed-whole, placed-kron}
use Rattle.matchgates.proofs.Gates.{every-gate, every-gate-by-elimination}
use Rattle.matchgates.proofs.Circuits.{forth-join, back-join, conjugated-none, conjugated-join}
use Rattle.matchgates.proofs.MatrixLaws.{adjoint-product, adjoint-identity}
use Rattle.matchgates.proofs.Oriented.{oriented}

module _ {𝓝 : Ops} {below : 𝓝.N → Bool} (𝓔 : Exact 𝓝 below) (𝓙 : Conjugate 𝓝 𝓔.i) {n : ℕ} {𝓐 : Ops} (𝓠 : Operators 𝓝 𝓔.i n 𝓐) where
  open 𝓐 use {N, one as 𝟙, mul as ◌⋆◌}

  infixl 70 ◌⋆◌
  abbrev 𝓛 : IsRing 𝓐
  𝓛 = 𝓠.ring

  -- ---- products in time

  -- what keeps products: the operators with given matrices
  record Keeps (w : ℕ) (R : Mat 𝓝 → N) : Type 0 where
    same : (u v : Mat 𝓝) → ((r c : ℕ) → r < w → c < w → u r c ≡ v r c) → R u ≡ R v
    times : (u v : Mat 𝓝) → R (product 𝓝 w u v) ≡ R u ⋆ R v
    whole : R (identity 𝓝) ≡ 𝟙

  module _ (w : ℕ) (R : Mat 𝓝 → N) (keeps : Keeps w R) where
    -- each on the left of those before it
    abbrev stacked : List (Mat 𝓝) → N
    stacked [] = 𝟙
    stacked (g ∷ gs) = stacked gs ⋆ R g

    abbrev unstacked : List (Mat 𝓝) → N
    unstacked [] = 𝟙
    unstacked (g ∷ gs) = R (adjoint 𝓙 g) ⋆ unstacked gs

    stacking : (acc : Mat 𝓝) (gs : List (Mat 𝓝)) → R (in_time 𝓝 w acc gs) ≡ stacked gs ⋆ R acc
    unfolding in_time
    stacking acc [] = sym (𝓛.one-mul (R acc))
    stacking acc (g ∷ gs) = stacking (product 𝓝 w g acc) gs ∙ ap (λ a. stacked gs ⋆ a) (keeps.times g acc) ∙ sym (𝓛.mul-assoc (stacked gs) (R g) (R acc))

    unstacking : (acc : Mat 𝓝) (gs : List (Mat 𝓝)) → R (adjoint 𝓙 (in_time 𝓝 w acc gs)) ≡ R (adjoint 𝓙 acc) ⋆ unstacked gs
    unfolding in_time
    unstacking acc [] = sym (𝓛.mul-one (R (adjoint 𝓙 acc)))
    unstacking acc (g ∷ gs) =
        unstacking (product 𝓝 w g acc) gs
        ∙ ap (λ a. a ⋆ unstacked gs)
        (keeps.same (adjoint 𝓙 (product 𝓝 w g acc)) (product 𝓝 w (adjoint 𝓙 acc) (adjoint 𝓙 g)) (λ r c hr hc. adjoint-product 𝓔 𝓙 w g acc r c)
        ∙ keeps.times (adjoint 𝓙 acc) (adjoint 𝓙 g))
        ∙ 𝓛.mul-assoc (R (adjoint 𝓙 acc)) (R (adjoint 𝓙 g)) (unstacked gs)

    product-is : (gs : List (Mat 𝓝)) → R (time_product 𝓝 w gs) ≡ stacked gs
    product-is gs = stacking (identity 𝓝) gs ∙ ap (λ a. stacked gs ⋆ a) keeps.whole ∙ 𝓛.mul-one (stacked gs)

    adjoint-is : (gs : List (Mat 𝓝)) → R (adjoint 𝓙 (time_product 𝓝 w gs)) ≡ unstacked gs
    adjoint-is gs =
        unstacking (identity 𝓝) gs
        ∙ ap (λ a. a ⋆ unstacked gs) (keeps.same (adjoint 𝓙 (identity 𝓝)) (identity 𝓝) (λ r c hr hc. adjoint-identity 𝓔 𝓙 r c) ∙ keeps.whole)
        ∙ 𝓛.one-mul (unstacked gs)

  -- ---- 2 by 2 matrices on one qubit

  module _ (q : ℕ) (h : q < n) where
    abbrev R : Mat 𝓝 → N
    R = on_one 𝓔 𝓠 q

    keeps-one : Keeps 2 R
    keeps-one = record { same = one-same 𝓔 𝓠 q h; times = one-times 𝓔 𝓠 q h; whole = one-whole 𝓔 𝓠 q h }

    forth-stacked : (us : List (Mat 𝓝)) → forth 𝓔 𝓠 (map (one q) us) ≡ stacked 2 R keeps-one us
    unfolding forth
    forth-stacked [] = refl
    forth-stacked (u ∷ us) = ap (λ a. a ⋆ R u) (forth-stacked us)

    back-unstacked : (us : List (Mat 𝓝)) → back 𝓔 𝓙 𝓠 (map (one q) us) ≡ unstacked 2 R keeps-one us
    unfolding back
    back-unstacked [] = refl
    back-unstacked (u ∷ us) = ap (λ a. R (adjoint 𝓙 u) ⋆ a) (back-unstacked us)

    lone-forth : (us : List (Mat 𝓝)) → forth 𝓔 𝓠 (map (one q) us) ≡ R (time_product 𝓝 2 us)
    lone-forth us = forth-stacked us ∙ sym (product-is 2 R keeps-one us)

    lone-back : (us : List (Mat 𝓝)) → back 𝓔 𝓙 𝓠 (map (one q) us) ≡ R (adjoint 𝓙 (time_product 𝓝 2 us))
    lone-back us = back-unstacked us ∙ sym (adjoint-is 2 R keeps-one us)

  -- ---- parts on two

  module _ (p q : ℕ) (hp : p < n) (hq : q < n) (other : p ≢ q) where
    abbrev T : Mat 𝓝 → N
    T = placed 𝓔 𝓠 p q

    keeps-two : Keeps 4 T
    keeps-two = record {
      same = placed-same 𝓔 𝓠 p q hp hq other;
      times = placed-times 𝓔 𝓠 p q hp hq other;
      whole = placed-whole 𝓔 𝓠 p q hp hq other;
    }

    -- matrices on the two qubits commute
    singles-pass : (a b : Mat 𝓝) → Pass 𝓐 false (on_one 𝓔 𝓠 q b) (on_one 𝓔 𝓠 p a)
    singles-pass a b =
        one-commutes 𝓔 𝓠 p hp (on_one 𝓔 𝓠 q b)
        (λ x. pass-back 𝓛 false (𝓠.pauli x p) (on_one 𝓔 𝓠 q b) (one-commutes 𝓔 𝓠 q hq (𝓠.pauli x p) (λ y. 𝓠.apart x y p q hp hq other) b)) a

    part-forth : (x : Part 𝓝) → forth 𝓔 𝓠 (part_acts p q x) ≡ T (part_matrix 𝓝 x)
    unfolding forth
    part-forth (singles us vs) =
        forth-join 𝓔 𝓠 (map (one p) us) (map (one q) vs)
        ∙ (λ i. lone-forth q hq vs i ⋆ lone-forth p hp us i)
        ∙ singles-pass (time_product 𝓝 2 us) (time_product 𝓝 2 vs)
        ∙ sym (placed-kron 𝓔 𝓠 p q hp hq other (time_product 𝓝 2 us) (time_product 𝓝 2 vs))
    part-forth (both m) = 𝓛.one-mul (T m)
    part-forth (turned m) = 𝓛.one-mul (placed 𝓔 𝓠 q p m) ∙ oriented 𝓔 𝓠 p q hp hq other m

    part-back : (x : Part 𝓝) → back 𝓔 𝓙 𝓠 (part_acts p q x) ≡ T (adjoint 𝓙 (part_matrix 𝓝 x))
    unfolding back
    part-back (singles us vs) =
        back-join 𝓔 𝓙 𝓠 (map (one p) us) (map (one q) vs)
        ∙ (λ i. lone-back p hp us i ⋆ lone-back q hq vs i)
        ∙ sym (placed-kron 𝓔 𝓠 p q hp hq other (adjoint 𝓙 a) (adjoint 𝓙 b))
        ∙ (λ i. T (λ r c. sym (𝓙.conj-mul (a (c / 2) (r / 2)) (b (c % 2) (r % 2))) i))
      where
        a : Mat 𝓝
        a = time_product 𝓝 2 us

        b : Mat 𝓝
        b = time_product 𝓝 2 vs
    part-back (both m) = 𝓛.mul-one (T (adjoint 𝓙 m))
    part-back (turned m) = 𝓛.mul-one (placed 𝓔 𝓠 q p (adjoint 𝓙 m)) ∙ oriented 𝓔 𝓠 p q hp hq other (adjoint 𝓙 m)

    parts-forth : (xs : List (Part 𝓝)) → forth 𝓔 𝓠 (parts_acts p q xs) ≡ stacked 4 T keeps-two (map (part_matrix 𝓝) xs)
    unfolding forth
    parts-forth [] = refl
    parts-forth (x ∷ xs) = forth-join 𝓔 𝓠 (part_acts p q x) (parts_acts p q xs) ∙ (λ i. parts-forth xs i ⋆ part-forth x i)

    parts-back : (xs : List (Part 𝓝)) → back 𝓔 𝓙 𝓠 (parts_acts p q xs) ≡ unstacked 4 T keeps-two (map (part_matrix 𝓝) xs)
    unfolding back
    parts-back [] = refl
    parts-back (x ∷ xs) = back-join 𝓔 𝓙 𝓠 (part_acts p q x) (parts_acts p q xs) ∙ (λ i. part-back x i ⋆ parts-back xs i)

    fused-right : (xs : List (Part 𝓝)) → FusedRight 𝓔 𝓙 𝓠 p q xs
    fused-right xs = record {
      together = parts-forth xs ∙ sym (product-is 4 T keeps-two (map (part_matrix 𝓝) xs));
      undone = parts-back xs ∙ sym (adjoint-is 4 T keeps-two (map (part_matrix 𝓝) xs));
    }

  -- FUSED BLOCKS
  pub every-fused : EveryFused 𝓔 𝓙 𝓠
  every-fused = fused-right

  -- ---- lists of fused blocks

  gathered-forth : (k : ℕ) (g : Gathered 𝓝) → k + modes_of g ≤ n → forth 𝓔 𝓠 (acts_from k g) ≡ on 𝓔 𝓠 (modes_of g) k (matrix_of g)
  gathered-forth k (lone us) h = lone-forth k (omega arith) us
  gathered-forth k (pair xs) h = (every-fused k (suc k) (omega arith) (omega arith) (λ e. omega (arith, e)) xs).together

  gathered-back : (k : ℕ) (g : Gathered 𝓝) → k + modes_of g ≤ n → back 𝓔 𝓙 𝓠 (acts_from k g) ≡ on 𝓔 𝓠 (modes_of g) k (adjoint 𝓙 (matrix_of g))
  gathered-back k (lone us) h = lone-back k (omega arith) us
  gathered-back k (pair xs) h = (every-fused k (suc k) (omega arith) (omega arith) (λ e. omega (arith, e)) xs).undone

  -- the gates of the blocks are all gates
  pub fusions-through : (bs : List (Item (Fusion 𝓔 𝓙 n))) (a : N) → through 𝓔 𝓙 𝓠 (map (each fusion_gate) bs) a ≡ conjugated 𝓔 𝓙 𝓠 (fusions_acts bs) a
  unfolding through
  fusions-through [] a = sym (conjugated-none 𝓔 𝓙 𝓠 a)
  fusions-through (interaction ∷ bs) a = fusions-through bs a
  fusions-through (applied b ∷ bs) a =
      (λ i. sym (gathered-back b.start b.gates b.fits) i ⋆ (fusions-through bs a i ⋆ sym (gathered-forth b.start b.gates b.fits) i))
      ∙ sym (conjugated-join 𝓔 𝓙 𝓠 (acts_from b.start b.gates) (fusions_acts bs) a)

  -- THE ANGLE THEOREM FOR FUSED BLOCKS, of every engine that is right for gates
  pub of-gates : (asked : Local 𝓝 → Bool) → EveryGate 𝓔 𝓙 𝓠 asked → EveryFusion 𝓔 𝓙 𝓠 asked
  of-gates asked every bs = record {
    covariance = λ r c hr hc d. known.covariance r c hr hc d ∙ ap 𝓠.vac (fusions-through bs (entry_of 𝓠 r c));
    diagonal = known.diagonal;
    parity = λ k h. known.parity k h ∙ ap 𝓠.vac (fusions-through bs (𝓠.pauli z k));
  }
    where
      gs : List (Item (Gate 𝓔 𝓙 n))
      gs = map (each fusion_gate) bs

      known : RightEntries 𝓝 (λ s. s) 𝓠 (get 𝓝 (run 𝓝 below asked (map (each computed) gs) (vacuum 𝓝))) (expected 𝓔 𝓙 𝓠 gs)
      known = every gs

  pub every-fusion : EveryFusion 𝓔 𝓙 𝓠 (odd 𝓝 below)
  every-fusion = of-gates (odd 𝓝 below) (every-gate 𝓔 𝓙 𝓠)

  pub every-fusion-by-elimination : {𝓣 : Tests 𝓝} → Divides 𝓝 𝓣 → EveryFusion 𝓔 𝓙 𝓠 (own_odd 𝓝 𝓣 below)
  every-fusion-by-elimination {𝓣} 𝓥 = of-gates (own_odd 𝓝 𝓣 below) (every-gate-by-elimination 𝓔 𝓙 𝓠 𝓥)
