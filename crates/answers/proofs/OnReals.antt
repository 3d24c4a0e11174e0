-- What queries answer on real numbers (specs/OnReals.antt says what): they are the answers on pairs, which divide too. Assumes nothing.
use mathlib.Core.Path.{◌≡◌, sym, ap, subst, ◌∙◌}
use mathlib.Core.Bool.{Bool, true, false, cond, ◌&&◌}
use mathlib.Core.List.{List, map}
use Prim.Native.Nat.{ℕ, ◌+◌, ◌*◌, ◌/◌, ◌%◌}
use native.Mathlib.Omega.{arith}
use lib.Dec.{eqb, ltb}
use lib.ListN.{length, get_or}
use Rattle.rings.specs.Rings.{Ops}
use Rattle.formulas.specs.Numbers.{Tests, Divides}
use Rattle.formulas.specs.Engine.{Mat, Item, each, run, vacuum, get}
use Rattle.formulas.specs.Determinants.{odd, own_odd}
use Rattle.formulas.specs.Pfaffians.{AllBelow, Alternating, own_pfaffian}
use Rattle.angles.specs.Qubits.{Operators}
use Rattle.angles.specs.Angles.{Block, state_after}
use Rattle.queries.specs.Lists.{oddly, noted_modes, odd_mode, odd_modes, stop_place, asked}
use Rattle.queries.specs.Basis.{basis_mark}
use Rattle.queries.specs.Marginals.{is_one}
use Rattle.queries.specs.Products.{dim_left}
use Rattle.matchgates.specs.Gates.{Gate, computed, expected}
use Rattle.matchgates.specs.Complex.{complex, flat, Real}
use Rattle.matchgates.specs.Circuits.{conjugated}
use Rattle.matchgates.specs.Fused.{fusion_gate}
use Rattle.matchgates.specs.Renamed.{meant}
use Rattle.matchgates.specs.OnReals.{real_state}
use Rattle.answers.specs.Products.{restricted, product_of}
use Rattle.answers.specs.Marginals.{half_spin_of, halved, asked_matrix, sign_of, marked_of}
use Rattle.answers.specs.Asked.{RightAnswers, marginal_answer}
use Rattle.answers.specs.OnReals.{RealGatesRight, RealCircuitsRight}
use Rattle.angles.proofs.OwnOdd.{own-run}
use Rattle.angles.proofs.OwnPfaffian.{pfaffian-by-elimination}
use Rattle.angles.proofs.Runs.{every-angle}
use Rattle.matchgates.proofs.Complex.{exact, conjugate}
use Rattle.matchgates.proofs.Embeds.{Embeds, cond-to, sg-to}
use Rattle.matchgates.proofs.Gates.{blocks, operations}
use Rattle.matchgates.proofs.OnReals.{flat-embeds, own-real-runs, real-pfaffians}
use Rattle.matchgates.proofs.Quotients.{pair_tests, pairs-divide}
use Rattle.answers.proofs.Products.{right-alternates, restricted-alternates, twice-length}
use Rattle.answers.proofs.Marginals.{asked-alternates, passing-below}
use Rattle.answers.proofs.Asked.{gates-right}
use Rattle.answers.proofs.Circuits.{circuits-right}

module _ {𝓡 : Ops} {below : 𝓡.N → Bool} (𝓕 : Real 𝓡 below) {𝓣 : Tests 𝓡} (𝓥 : Divides 𝓡 𝓣) where
  abbrev ℂ : Ops
  ℂ = complex 𝓡

  abbrev negative : ℂ.N → Bool
  negative s = below s.re

  abbrev ι : 𝓡.N → ℂ.N
  ι = flat 𝓡

  abbrev 𝓗 : Embeds 𝓡 ℂ ι
  𝓗 = flat-embeds 𝓕

  abbrev pairs : Tests ℂ
  pairs = pair_tests 𝓡 𝓣

  -- ---- from any entries

  -- the engine's Pfaffian of a real matrix is that of the same pairs
  pfaffian-pairs : (dim : ℕ) (a : Mat 𝓡) → Alternating ℂ dim (λ r c. ι (a r c)) → ι (own_pfaffian 𝓡 𝓣 dim a) ≡ own_pfaffian ℂ pairs dim (λ r c. ι (a r c))
  pfaffian-pairs dim a 𝓜 =
      real-pfaffians 𝓕 𝓥 dim dim a real (omega arith)
      ∙ sym (pfaffian-by-elimination (exact 𝓕).laws (pairs-divide 𝓕 𝓥) dim dim (λ r c. ι (a r c)) 𝓜 (omega arith))
    where
      real : Alternating 𝓡 dim a
      real = record { turns = λ r c hr hc. ap (λ s. s.re) (𝓜.turns r c hr hc); nought-at = λ r hr. ap (λ s. s.re) (𝓜.nought-at r hr) }

  module _ (n : ℕ) (e : Mat 𝓡) (𝓜 : Alternating ℂ (2 * n) (λ r c. ι (e r c))) where
    abbrev E : Mat ℂ
    E r c = ι (e r c)

    product-pairs : (l : List ℕ) → AllBelow n l → ι (product_of 𝓡 𝓣 e l) ≡ product_of ℂ pairs E l
    unfolding product_of
    product-pairs l h =
        pfaffian-pairs (dim_left l) (restricted e l) (subst (λ d. Alternating ℂ d (restricted E l)) (sym (twice-length l)) (restricted-alternates n E 𝓜 l h))

    -- the entries that a marginal asks for
    asked-pairs : (mark : ℕ → ℕ) (l : List ℕ) → (λ r c. ι (asked_matrix 𝓡 𝓕.half e mark l r c)) ≡ asked_matrix ℂ (ι 𝓕.half) E mark l
    asked-pairs mark l = λ i r c. at r c i
      where
        s : ℕ → 𝓡.N
        s j = half_spin_of 𝓡 𝓕.half (mark (get_or l j 0))

        m : Mat 𝓡
        m = halved 𝓡 𝓕.half (restricted e l)

        spin : (j : ℕ) → ι (s j) ≡ half_spin_of ℂ (ι 𝓕.half) (mark (get_or l j 0))
        spin j = sg-to ι 𝓗 (is_one (mark (get_or l j 0))) 𝓕.half

        half : (r c : ℕ) → ι (m r c) ≡ halved ℂ (ι 𝓕.half) (restricted E l) r c
        half r c = 𝓗.mul-to 𝓕.half (restricted e l r c)

        at : (r c : ℕ) → ι (asked_matrix 𝓡 𝓕.half e mark l r c) ≡ asked_matrix ℂ (ι 𝓕.half) E mark l r c
        at r c = by (eqb (r % 2) 0 && eqb c (r + 1)) (eqb (c % 2) 0 && eqb r (c + 1))
          where
            by : (a b : Bool)
                → ι (cond a (𝓡.add (m r c) (s (r / 2))) (cond b (𝓡.add (m r c) (𝓡.neg (s (r / 2)))) (m r c)))
                ≡ cond a (ℂ.add (halved ℂ (ι 𝓕.half) (restricted E l) r c) (half_spin_of ℂ (ι 𝓕.half) (mark (get_or l (r / 2) 0))))
                (cond b (ℂ.add (halved ℂ (ι 𝓕.half) (restricted E l) r c) (ℂ.neg (half_spin_of ℂ (ι 𝓕.half) (mark (get_or l (r / 2) 0)))))
                (halved ℂ (ι 𝓕.half) (restricted E l) r c))
            by true b = 𝓗.add-to (m r c) (s (r / 2)) ∙ (λ i. ℂ.add (half r c i) (spin (r / 2) i))
            by false true = 𝓗.add-to (m r c) (𝓡.neg (s (r / 2))) ∙ (λ i. ℂ.add (half r c i) ((𝓗.neg-to (s (r / 2)) ∙ ap ℂ.neg (spin (r / 2))) i))
            by false false = half r c

    marked-pairs : (mark : ℕ → ℕ) → ι (marked_of 𝓡 𝓕.half 𝓣 e n mark) ≡ marked_of ℂ (ι 𝓕.half) pairs E n mark
    unfolding marked_of
    marked-pairs mark =
        𝓗.mul-to (sign_of 𝓡 𝓕.half n mark) (own_pfaffian 𝓡 𝓣 (dim_left l) (asked_matrix 𝓡 𝓕.half e mark l))
        ∙ (λ i. ℂ.mul (sg-to ι 𝓗 (oddly (λ k. is_one (mark k)) n) 𝓡.one i) (value i))
      where
        l : List ℕ
        l = noted_modes n mark

        few : AllBelow n (noted_modes n mark)
        few = passing-below (λ k. ltb 0 (mark k)) n n (omega arith)

        value : ι (own_pfaffian 𝓡 𝓣 (dim_left l) (asked_matrix 𝓡 𝓕.half e mark l)) ≡ own_pfaffian ℂ pairs (dim_left l) (asked_matrix ℂ (ι 𝓕.half) E mark l)
        value =
            pfaffian-pairs (dim_left l) (asked_matrix 𝓡 𝓕.half e mark l)
            (subst (λ a. Alternating ℂ (dim_left l) a) (sym (asked-pairs mark l))
            (subst (λ d. Alternating ℂ d (asked_matrix ℂ (ι 𝓕.half) E mark l)) (sym (twice-length l)) (asked-alternates (exact 𝓕) n E 𝓜 mark l few)))
            ∙ ap (own_pfaffian ℂ pairs (dim_left l)) (asked-pairs mark l)

    -- what is right of these pairs is right of the real numbers
    read : {𝓐 : Ops} (𝓠 : Operators ℂ (exact 𝓕).i n 𝓐) (modes : List ℕ) (v : 𝓐.N → ℂ.N)
        → RightAnswers pairs (ι 𝓕.half) (λ s. s) (exact 𝓕) 𝓠 modes E v → RightAnswers 𝓣 𝓕.half ι (exact 𝓕) 𝓠 modes e v
    unfolding odd_modes
    read 𝓠 modes v 𝓢 = record {
      product = λ qs h. product-pairs (odd_modes n modes qs) (few qs) ∙ 𝓢.product qs h;
      marginal = λ qs bits h ok. stopped qs bits ∙ 𝓢.marginal qs bits h ok;
      index = λ low high. marked-pairs (basis_mark n modes low high) ∙ 𝓢.index low high;
    }
      where
        few : (qs : List ℕ) → AllBelow n (odd_modes n modes qs)
        few qs = passing-below (odd_mode modes qs (length qs)) n n (omega arith)

        stopped : (qs bits : List ℕ) → ι (marginal_answer 𝓡 𝓣 𝓕.half e n modes qs bits) ≡ marginal_answer ℂ pairs (ι 𝓕.half) E n modes qs bits
        stopped qs bits =
            cond-to ι 𝓗 (ltb (stop_place n modes qs bits) (length qs)) 𝓡.zero (marked_of 𝓡 𝓕.half 𝓣 e n (asked modes qs bits))
            ∙ ap (cond (ltb (stop_place n modes qs bits) (length qs)) ℂ.zero) (marked-pairs (asked modes qs bits))

  -- ---- after gates

  module _ {n : ℕ} {𝓐 : Ops} (𝓦 : Operators ℂ (exact 𝓕).i n 𝓐) (gs : List (Item (Gate (exact 𝓕) (conjugate 𝓕) n))) where
    abbrev pub real_entries : Mat 𝓡
    real_entries = get 𝓡 (real_state 𝓣 below (exact 𝓕) (conjugate 𝓕) (own_odd 𝓡 𝓣 below) gs)

    abbrev real_blocks : List (Item (Block 𝓦))
    real_blocks = blocks (exact 𝓕) (conjugate 𝓕) 𝓦 gs

    by-textbook : (λ r c. ι (real_entries r c)) ≡ get ℂ (state_after (exact 𝓕) 𝓦 (odd ℂ negative) real_blocks)
    by-textbook =
        (λ i r c. own-real-runs 𝓕 𝓥 n gs r c i)
        ∙ ap (λ os. get ℂ (run ℂ negative (odd ℂ negative) os (vacuum ℂ))) (sym (operations (exact 𝓕) (conjugate 𝓕) 𝓦 gs))

    -- they are those of the engine on pairs, with its own elimination
    by-elimination : (λ r c. ι (real_entries r c)) ≡ get ℂ (state_after (exact 𝓕) 𝓦 (own_odd ℂ pairs negative) real_blocks)
    by-elimination = by-textbook ∙ ap (get ℂ) (own-run (pairs-divide 𝓕 𝓥) (exact 𝓕) 𝓦 real_blocks (vacuum ℂ))

    alternates : Alternating ℂ (2 * n) (λ r c. ι (real_entries r c))
    alternates =
        subst (Alternating ℂ (2 * n)) (sym by-textbook)
        (right-alternates (exact 𝓕) 𝓦 real_blocks (state_after (exact 𝓕) 𝓦 (odd ℂ negative) real_blocks) (every-angle (exact 𝓕) 𝓦 real_blocks))

    pub as-computed : (λ r c. ι (real_entries r c)) ≡ get ℂ (run ℂ negative (own_odd ℂ pairs negative) (map (each computed) gs) (vacuum ℂ))
    as-computed = by-elimination ∙ ap (λ os. get ℂ (run ℂ negative (own_odd ℂ pairs negative) os (vacuum ℂ))) (operations (exact 𝓕) (conjugate 𝓕) 𝓦 gs)

    of-pairs : (𝓠 : Operators ℂ (exact 𝓕).i n 𝓐) (modes : List ℕ) (v : 𝓐.N → ℂ.N)
        → RightAnswers pairs (ι 𝓕.half) (λ s. s) (exact 𝓕) 𝓠 modes (get ℂ (run ℂ negative (own_odd ℂ pairs negative) (map (each computed) gs) (vacuum ℂ))) v
        → RightAnswers 𝓣 𝓕.half ι (exact 𝓕) 𝓠 modes real_entries v
    of-pairs 𝓠 modes v 𝓢 =
        read n real_entries alternates 𝓠 modes v (subst (λ e. RightAnswers pairs (ι 𝓕.half) (λ s. s) (exact 𝓕) 𝓠 modes e v) (sym as-computed) 𝓢)

  -- THE ANSWERS OF THE REAL ENGINE
  pub real-gates-right : RealGatesRight 𝓕 𝓣 (exact 𝓕) (conjugate 𝓕) (own_odd 𝓡 𝓣 below)
  real-gates-right n 𝓐 𝓠 𝓦 modes table w gs =
      of-pairs 𝓦 gs 𝓠 modes (expected (exact 𝓕) (conjugate 𝓕) 𝓦 gs)
      (gates-right (pairs-divide 𝓕 𝓥) (exact 𝓕) (conjugate 𝓕) n 𝓐 𝓠 𝓦 modes table w gs)

  pub real-circuits-right : RealCircuitsRight 𝓕 𝓣 (exact 𝓕) (conjugate 𝓕) (own_odd 𝓡 𝓣 below)
  real-circuits-right n 𝓐 𝓠 𝓦 modes table gs hs bs l c =
      of-pairs 𝓦 (map (each fusion_gate) bs) 𝓠 modes (λ a. 𝓠.vac (conjugated (exact 𝓕) (conjugate 𝓕) 𝓠 (map meant gs) a))
      (circuits-right (pairs-divide 𝓕 𝓥) (exact 𝓕) (conjugate 𝓕) n 𝓐 𝓠 𝓦 modes table gs hs bs l c)
