-- What queries answer at every angle, from their lists and by qubits (specs/Asked.antt says what). Assumes nothing.
use mathlib.Core.Path.{◌≡◌, refl, sym, ap, transport, ◌∙◌}
use mathlib.Core.Logic.{◌⊎◌, inl, inr, ◌≢◌}
use mathlib.Core.Bool.{Bool, true, false, not, cond, ◌&&◌, ◌||◌, false≢true}
use mathlib.Core.List.{List}
use Prim.Native.Nat.{ℕ, zero, suc, ◌≤◌, ◌<◌}
use native.Mathlib.Omega.{arith}
use native.Mathlib.Numerals.{add-one}
use lib.Dec.{eqb, ltb}
use lib.ListN.{length, get_or}
use borrow.Author.Tests.{eq-eqb, ne_eqb, eqb-true, lt-ltb, lt-leb, ltb-true, ltb-false}
use Rattle.std.proofs.lemmas.Bool.{and_parts}
use Rattle.laws.specs.Lists.{All}
use Rattle.laws.specs.Tables.{mode_at}
use Rattle.rings.specs.Rings.{Ops, IsRing, sg}
use Rattle.formulas.specs.Numbers.{Exact, Tests, Divides}
use Rattle.formulas.specs.Engine.{Item, run, vacuum, get}
use Rattle.formulas.specs.Determinants.{own_odd}
use Rattle.angles.specs.Qubits.{z, Operators}
use Rattle.angles.specs.Angles.{Block, after, state_after}
use Rattle.state.specs.Modes.{is_permutation}
use Rattle.state.proofs.Permutations.{mode-below, mode-one}
use Rattle.state.proofs.Inverse.{qubit-one}
use Rattle.queries.specs.Lists.{oddly, odd_mode, mode_listed, bit_listed, odd_modes}
use Rattle.queries.specs.Lists.{noted, conflicts_of, contradicts, bits_ok, stop_place, asked}
use Rattle.queries.specs.Marginals.{is_one}
use Rattle.queries.specs.Basis.{basis_bit_of, basis_mark}
use Rattle.queries.proofs.Marking.{noted_here, noted-there, none-contradicts, bits-asked}
use Rattle.queries.proofs.Stopping.{noted_small, stop_hit, no-contradiction}
use Rattle.matchgates.specs.Maps.{Conjugate}
use Rattle.answers.specs.Marginals.{marked_of, reads}
use Rattle.answers.specs.Asked.{product_answer, marginal_answer, index_answer, through, ByTable, z_product, all_bits, basis_state}
use Rattle.answers.specs.Asked.{RightAnswers, QueriesRight, GatesRight}
use Rattle.angles.proofs.Lists.{all-at}
use Rattle.angles.proofs.Steps.{lin-zero}
use Rattle.angles.proofs.Vacuum.{vac-linear}
use Rattle.angles.proofs.Runs.{pulled-all}
use Rattle.matchgates.proofs.Gates.{blocks, operations, pulled-through}
use Rattle.answers.proofs.Products.{own-products}
use Rattle.answers.proofs.Marginals.{own-marginals, passing-below, passing-distinct}
use Rattle.answers.proofs.Through.{times-passing, through-same, through-ones, through-zero, through-stays, one-more}
use Rattle.answers.proofs.Bits.{reads-twice, reads-both, reads-z}

-- ---- marks: 0 nothing, else one more than the bit

one-mark : (b : ℕ) → is_one (suc b) ≡ eqb b 1
one-mark zero = refl
one-mark (suc zero) = refl
one-mark (suc (suc b)) = ne_eqb (suc (suc (suc b))) 2 (λ e. omega (arith, e)) ∙ sym (ne_eqb (suc (suc b)) 1 (λ e. omega (arith, e)))

-- a mark that conflicts with a bit is that of the other bit
other-mark : (x b : ℕ) → x ≤ 2 → b ≤ 1 → conflicts_of x (suc b) ≡ true → is_one x ≡ not (eqb b 1)
other-mark zero b l m e = absurd (false≢true e)
other-mark (suc zero) zero l m e = absurd (false≢true e)
other-mark (suc zero) (suc zero) l m e = refl
other-mark (suc (suc zero)) zero l m e = refl
other-mark (suc (suc zero)) (suc zero) l m e = absurd (false≢true e)
other-mark (suc (suc (suc x))) b l m e = absurd (omega (arith, l))
other-mark (suc zero) (suc (suc b)) l m e = absurd (omega (arith, m))
other-mark (suc (suc zero)) (suc (suc b)) l m e = absurd (omega (arith, m))

-- one that does not is none, or of that bit
agreeing : (x b : ℕ) → conflicts_of x (suc b) ≡ false → (x ≡ 0) ⊎ (x ≡ suc b)
agreeing zero b e = inl refl
agreeing (suc x) b e = by (eqb (suc x) (suc b)) refl (ap (λ t. t && not (eqb (suc x) (suc b))) (sym (lt-ltb 0 (suc x) (omega arith))) ∙ e)
  where
    by : (t : Bool) → eqb (suc x) (suc b) ≡ t → not t ≡ false → (suc x ≡ 0) ⊎ (suc x ≡ suc b)
    by true q f = inr (eqb-true (suc x) (suc b) q)
    by false q f = absurd (false≢true (sym f))

module _ {𝓝 : Ops} {below : 𝓝.N → Bool} (𝓔 : Exact 𝓝 below) {n : ℕ} {𝓐 : Ops} (𝓠 : Operators 𝓝 𝓔.i n 𝓐) where
  open 𝓐 use {N, zero as 𝟘, one as 𝟙, mul as ◌⋆◌}

  infixl 70 ◌⋆◌
  abbrev 𝓛 : IsRing 𝓐
  𝓛 = 𝓠.ring

  abbrev Z : ℕ → N
  Z = 𝓠.pauli z

  -- ---- the list of a product: the modes of odd count

  -- Z of mode k, if b
  abbrev z_if : Bool → ℕ → N
  z_if b k = cond b (Z k) 𝟙

  listed-odd : (l : ℕ → ℕ) (i : ℕ) → ((j : ℕ) → j < i → l j < n) → through 𝓐 (λ j. Z (l j)) i ≡ through 𝓐 (λ k. z_if (oddly (λ j. eqb (l j) k) i) k) n
  unfolding through oddly
  listed-odd l zero h = sym (through-ones 𝓛 n)
  listed-odd l (suc i) h =
      ap (λ a. a ⋆ Z (l i)) (listed-odd l i (λ j u. h j (omega (arith, u))))
      ∙ one-more 𝓛 (λ k. z_if (oddly (λ j. eqb (l j) k) i) k) (λ k. z_if (cond (eqb (l i) k) (not (oddly (λ j. eqb (l j) k) i)) (oddly (λ j. eqb (l j) k) i)) k)
      (l i) (Z (l i)) own others n (h i (omega arith)) later
    where
      own : z_if (cond (eqb (l i) (l i)) (not (oddly (λ j. eqb (l j) (l i)) i)) (oddly (λ j. eqb (l j) (l i)) i)) (l i)
          ≡ z_if (oddly (λ j. eqb (l j) (l i)) i) (l i) ⋆ Z (l i)
      own = ap (λ t. z_if (cond t (not (oddly (λ j. eqb (l j) (l i)) i)) (oddly (λ j. eqb (l j) (l i)) i)) (l i)) (eq-eqb (l i) (l i) refl)
          ∙ by (oddly (λ j. eqb (l j) (l i)) i)
        where
          by : (o : Bool) → z_if (not o) (l i) ≡ z_if o (l i) ⋆ Z (l i)
          by true = sym (𝓠.square z (l i) (h i (omega arith)))
          by false = sym (𝓛.one-mul (Z (l i)))

      others : (k : ℕ) → k ≢ l i
          → z_if (cond (eqb (l i) k) (not (oddly (λ j. eqb (l j) k) i)) (oddly (λ j. eqb (l j) k) i)) k ≡ z_if (oddly (λ j. eqb (l j) k) i) k
      others k d = ap (λ t. z_if (cond t (not (oddly (λ j. eqb (l j) k) i)) (oddly (λ j. eqb (l j) k) i)) k) (ne_eqb (l i) k (λ e. d (sym e)))

      later : (k : ℕ) → l i < k → k < n → z_if (oddly (λ j. eqb (l j) k) i) k ⋆ Z (l i) ≡ Z (l i) ⋆ z_if (oddly (λ j. eqb (l j) k) i) k
      later k u v = by (oddly (λ j. eqb (l j) k) i)
        where
          by : (o : Bool) → z_if o k ⋆ Z (l i) ≡ Z (l i) ⋆ z_if o k
          by true = 𝓠.apart z z k (l i) v (h i (omega arith)) (λ e. omega (arith, e, u))
          by false = 𝓛.one-mul (Z (l i)) ∙ sym (𝓛.mul-one (Z (l i)))

  -- ---- the list of a marginal: the modes that something is noted of

  -- what a mark asks of mode k
  abbrev pub mark_if : ℕ → ℕ → N
  mark_if x k = cond (ltb 0 x) (reads 𝓔 𝓠 (is_one x) k) 𝟙

  pub marked : (b k : ℕ) → mark_if (suc b) k ≡ reads 𝓔 𝓠 (eqb b 1) k
  marked b k = λ i. cond (lt-ltb 0 (suc b) (omega arith) i) (reads 𝓔 𝓠 (one-mark b i) k) 𝟙

  -- place j asks mode m j for the bit b j
  module _ (m b : ℕ → ℕ) where
    abbrev pub at_place : ℕ → N
    at_place j = reads 𝓔 𝓠 (eqb (b j) 1) (m j)

    abbrev at_mode : ℕ → ℕ → N
    at_mode i k = mark_if (noted m b i k) k

    at-later : (i k j : ℕ) → k < n → j < n → k ≢ j → (t : Bool) → at_mode i k ⋆ reads 𝓔 𝓠 t j ≡ reads 𝓔 𝓠 t j ⋆ at_mode i k
    at-later i k j hk hj d t = by (ltb 0 (noted m b i k))
      where
        by : (o : Bool) → cond o (reads 𝓔 𝓠 (is_one (noted m b i k)) k) 𝟙 ⋆ reads 𝓔 𝓠 t j ≡ reads 𝓔 𝓠 t j ⋆ cond o (reads 𝓔 𝓠 (is_one (noted m b i k)) k) 𝟙
        by true = reads-z 𝓔 𝓠 (is_one (noted m b i k)) t k j hk hj d
        by false = 𝓛.one-mul (reads 𝓔 𝓠 t j) ∙ sym (𝓛.mul-one (reads 𝓔 𝓠 t j))

    pub listed-marks : (i : ℕ) → ((j : ℕ) → j < i → m j < n) → ((j : ℕ) → j < i → contradicts m b j ≡ false) → through 𝓐 at_place i ≡ through 𝓐 (at_mode i) n
    unfolding through noted
    listed-marks zero h c = sym (through-ones 𝓛 n)
    listed-marks (suc i) h c =
        ap (λ a. a ⋆ at_place i) (listed-marks i (λ j u. h j (omega (arith, u))) (λ j u. c j (omega (arith, u))))
        ∙ one-more 𝓛 (at_mode i) (at_mode (suc i)) (m i) (at_place i) own others n (h i (omega arith))
        (λ k u v. at-later i k (m i) v (h i (omega arith)) (λ e. omega (arith, e, u)) (eqb (b i) 1))
      where
        here : noted m b (suc i) (m i) ≡ suc (b i)
        here = ap (λ s. noted m b s (m i)) (sym (add-one i)) ∙ noted_here m b i (m i) refl (c i (omega arith))

        own : at_mode (suc i) (m i) ≡ at_mode i (m i) ⋆ at_place i
        own = ap (λ x. mark_if x (m i)) here ∙ marked (b i) (m i) ∙ by (agreeing (noted m b i (m i)) (b i) (c i (omega arith)))
          where
            by : (noted m b i (m i) ≡ 0) ⊎ (noted m b i (m i) ≡ suc (b i)) → at_place i ≡ at_mode i (m i) ⋆ at_place i
            by (inl e) = sym (ap (λ x. mark_if x (m i) ⋆ at_place i) e ∙ 𝓛.one-mul (at_place i))
            by (inr e) =
                sym (ap (λ a. a ⋆ at_place i) (ap (λ x. mark_if x (m i)) e ∙ marked (b i) (m i))
                ∙ reads-twice 𝓔 𝓠 (eqb (b i) 1) (m i) (h i (omega arith)))

        others : (k : ℕ) → k ≢ m i → at_mode (suc i) k ≡ at_mode i k
        others k d = ap (λ x. mark_if x k) (ap (λ s. noted m b s k) (sym (add-one i)) ∙ noted-there m b i k d)

    -- at a contradiction, and after it, nothing is left
    contradiction : (i r : ℕ) → i < r → ((j : ℕ) → j < r → m j < n) → ((j : ℕ) → j < r → b j ≤ 1) → ((j : ℕ) → j < i → contradicts m b j ≡ false)
        → contradicts m b i ≡ true → through 𝓐 at_place r ≡ 𝟘
    contradiction i r l h s c e =
        through-stays 𝓛 at_place i r l
        (ap (λ a. a ⋆ at_place i) (listed-marks i (λ j u. h j (omega (arith, u, l))) c)
        ∙ one-more 𝓛 (at_mode i) none (m i) (at_place i) own others n (h i l)
        (λ k u v. at-later i k (m i) v (h i l) (λ e. omega (arith, e, u)) (eqb (b i) 1))
        ∙ through-zero 𝓛 none (m i) n (h i l) (ap (λ t. cond t 𝟘 (at_mode i (m i))) (eq-eqb (m i) (m i) refl)))
      where
        none : ℕ → N
        none k = cond (eqb k (m i)) 𝟘 (at_mode i k)

        x : ℕ
        x = noted m b i (m i)

        asked-for : ltb 0 x ≡ true
        asked-for = (and_parts (ltb 0 x) (not (eqb x (suc (b i)))) e).0

        own : none (m i) ≡ at_mode i (m i) ⋆ at_place i
        own =
            ap (λ t. cond t 𝟘 (at_mode i (m i))) (eq-eqb (m i) (m i) refl)
            ∙ sym ((λ t. cond (asked-for t) (reads 𝓔 𝓠 (is_one x) (m i)) 𝟙 ⋆ at_place i)
            ∙ ap (λ t. reads 𝓔 𝓠 t (m i) ⋆ at_place i) (other-mark x (b i) (noted_small m b i (m i) (λ j u. s j (omega (arith, u, l)))) (s i l) e)
            ∙ by (eqb (b i) 1))
          where
            by : (t : Bool) → reads 𝓔 𝓠 (not t) (m i) ⋆ reads 𝓔 𝓠 t (m i) ≡ 𝟘
            by true = reads-both 𝓔 𝓠 false (m i) (h i l)
            by false = reads-both 𝓔 𝓠 true (m i) (h i l)

        others : (k : ℕ) → k ≢ m i → none k ≡ at_mode i k
        others k d = ap (λ t. cond t 𝟘 (at_mode i k)) (ne_eqb k (m i) d)

-- ---- queries

module _ {𝓝 : Ops} {below : 𝓝.N → Bool} (𝓔 : Exact 𝓝 below) {n : ℕ} {𝓐 : Ops} (𝓠 𝓦 : Operators 𝓝 𝓔.i n 𝓐) (modes : List ℕ)
    (table : is_permutation n modes ≡ true) (w : ByTable 𝓠 𝓦 modes) where
  -- Z of a qubit is that of its mode
  z-mode : (q : ℕ) → q < n → 𝓦.pauli z (mode_at modes q) ≡ 𝓠.pauli z q
  z-mode q h =
      w.place z (mode_at modes q) (mode-below n modes table q h)
      ∙ ap (𝓠.pauli z) (sym (qubit-one n modes table (mode_at modes q) (mode-below n modes table q h) q h refl))

  -- a qubit that reads a bit is a mode that does
  pub reads-mode : (b : Bool) (q : ℕ) → q < n → reads 𝓔 𝓦 b (mode_at modes q) ≡ reads 𝓔 𝓠 b q
  reads-mode b q h = λ i. 𝓐.mul (w.number 𝓔.half i) (𝓐.add 𝓐.one (sg 𝓐 b (z-mode q h i)))

module _ {𝓝 : Ops} {𝓣 : Tests 𝓝} (𝓥 : Divides 𝓝 𝓣) {below : 𝓝.N → Bool} (𝓔 : Exact 𝓝 below) {n : ℕ} {𝓐 : Ops} (𝓠 𝓦 : Operators 𝓝 𝓔.i n 𝓐) (modes : List ℕ)
    (table : is_permutation n modes ≡ true) (w : ByTable 𝓠 𝓦 modes) (gs : List (Item (Block 𝓦))) where
  -- a marginal of marks, mode by mode
  marks : (mark : ℕ → ℕ) → marked_of 𝓝 𝓔.half 𝓣 (get 𝓝 (state_after 𝓔 𝓦 (own_odd 𝓝 𝓣 below) gs)) n mark
      ≡ after 𝓦 gs (through 𝓐 (λ k. mark_if 𝓔 𝓦 (mark k) k) n)
  marks mark =
      own-marginals 𝓥 𝓔 𝓦 gs mark
      ∙ ap (after 𝓦 gs) (times-passing 𝓦.ring (λ k. reads 𝓔 𝓦 (is_one (mark k)) k) (λ k. ltb 0 (mark k)) n)

  module _ (qs : List ℕ) (below-n : All (λ q. q < n) qs) where
    qubit-below : (j : ℕ) → j < length qs → get_or qs j 0 < n
    qubit-below j h = all-at (λ q. q < n) qs j 0 below-n h

    listed-below : (j : ℕ) → j < length qs → mode_listed modes qs j < n
    listed-below j h = mode-below n modes table (get_or qs j 0) (qubit-below j h)

    product-right : product_answer 𝓝 𝓣 𝓔.half (get 𝓝 (state_after 𝓔 𝓦 (own_odd 𝓝 𝓣 below) gs)) n modes qs ≡ after 𝓦 gs (z_product 𝓔 𝓠 qs)
    unfolding odd_modes
    product-right =
        own-products 𝓥 𝓔 𝓦 gs (odd_modes n modes qs) (passing-below odd n n (omega arith)) (passing-distinct odd n)
        ∙ ap (after 𝓦 gs) (times-passing 𝓦.ring (𝓦.pauli z) odd n
        ∙ sym (listed-odd 𝓔 𝓦 (mode_listed modes qs) (length qs) listed-below)
        ∙ through-same 𝓦.ring (λ j. 𝓦.pauli z (mode_listed modes qs j)) (λ j. 𝓠.pauli z (get_or qs j 0)) (length qs)
        (λ j h. z-mode 𝓔 𝓠 𝓦 modes table w (get_or qs j 0) (qubit-below j h)))
      where
        odd : ℕ → Bool
        odd = odd_mode modes qs (length qs)

    module _ (bits : List ℕ) (ok : bits_ok qs bits ≡ true) where
      place : ℕ
      place = stop_place n modes qs bits

      by-modes : through 𝓐 (at_place 𝓔 𝓦 (mode_listed modes qs) (bit_listed bits)) (length qs) ≡ all_bits 𝓔 𝓠 qs bits
      by-modes =
          through-same 𝓦.ring (at_place 𝓔 𝓦 (mode_listed modes qs) (bit_listed bits)) (λ j. reads 𝓔 𝓠 (eqb (get_or bits j 0) 1) (get_or qs j 0)) (length qs)
          (λ j h. reads-mode 𝓔 𝓠 𝓦 modes table w (eqb (get_or bits j 0) 1) (get_or qs j 0) (qubit-below j h))

      agreed : (j : ℕ) → j < length qs → j < place → contradicts (mode_listed modes qs) (bit_listed bits) j ≡ false
      unfolding place
      agreed j h l = no-contradiction n modes qs bits j l

      -- the list stops there: it asks a qubit below n for both bits
      stopped : place < length qs → contradicts (mode_listed modes qs) (bit_listed bits) place ≡ true
      unfolding place
      stopped h =
          ap (λ t. t || contradicts (mode_listed modes qs) (bit_listed bits) place) (sym (lt-leb n (get_or qs place 0) (qubit-below place h)))
          ∙ stop_hit n modes qs bits h

      marginal-right : marginal_answer 𝓝 𝓣 𝓔.half (get 𝓝 (state_after 𝓔 𝓦 (own_odd 𝓝 𝓣 below) gs)) n modes qs bits ≡ after 𝓦 gs (all_bits 𝓔 𝓠 qs bits)
      unfolding place
      marginal-right = by (ltb place (length qs)) refl
        where
          small : (j : ℕ) → j < length qs → bit_listed bits j ≤ 1
          small j h = (bits-asked qs bits ok).small j (omega (arith, h, (bits-asked qs bits ok).many))

          by : (t : Bool) → ltb place (length qs) ≡ t
              → cond t 𝓝.zero (marked_of 𝓝 𝓔.half 𝓣 (get 𝓝 (state_after 𝓔 𝓦 (own_odd 𝓝 𝓣 below) gs)) n (asked modes qs bits))
              ≡ after 𝓦 gs (all_bits 𝓔 𝓠 qs bits)
          by true e =
              sym (lin-zero 𝓔 𝓦 (after 𝓦 gs) (pulled-all 𝓔 𝓦 gs 𝓦.vac (vac-linear 𝓔 𝓦)))
              ∙ ap (after 𝓦 gs)
              (sym (contradiction 𝓔 𝓦 (mode_listed modes qs) (bit_listed bits) place (length qs) (ltb-true place (length qs) e) listed-below small
              (λ j u. agreed j (omega (arith, u, ltb-true place (length qs) e)) u) (stopped (ltb-true place (length qs) e)))
              ∙ by-modes)
          by false e =
              marks (asked modes qs bits)
              ∙ ap (after 𝓦 gs)
              (sym (listed-marks 𝓔 𝓦 (mode_listed modes qs) (bit_listed bits) (length qs) listed-below
              (λ j h. agreed j h (omega (arith, h, ltb-false place (length qs) e))))
              ∙ by-modes)

  index-right : (low high : ℕ)
      → index_answer 𝓝 𝓣 𝓔.half (get 𝓝 (state_after 𝓔 𝓦 (own_odd 𝓝 𝓣 below) gs)) n modes low high ≡ after 𝓦 gs (basis_state 𝓔 𝓠 low high)
  index-right low high =
      marks (basis_mark n modes low high)
      ∙ ap (after 𝓦 gs)
      (sym (listed-marks 𝓔 𝓦 (mode_at modes) bit n (mode-below n modes table) (λ j h. none-contradicts (mode_at modes) bit j (alone j h)))
      ∙ through-same 𝓦.ring (at_place 𝓔 𝓦 (mode_at modes) bit) (λ q. reads 𝓔 𝓠 (eqb (bit q) 1) q) n (λ q h. reads-mode 𝓔 𝓠 𝓦 modes table w (eqb (bit q) 1) q h))
    where
      bit : ℕ → ℕ
      bit = basis_bit_of low high

      alone : (j : ℕ) → j < n → (k : ℕ) → k < j → mode_at modes k ≢ mode_at modes j
      alone j h k u e = omega (arith, u, mode-one n modes table k j (omega (arith, u, h)) h e)

  right-answers : RightAnswers 𝓣 𝓔.half (λ s. s) 𝓔 𝓠 modes (get 𝓝 (state_after 𝓔 𝓦 (own_odd 𝓝 𝓣 below) gs)) (after 𝓦 gs)
  right-answers = record { product = product-right; marginal = λ qs bits h ok. marginal-right qs h bits ok; index = index-right }

pub queries-right : {𝓝 : Ops} {𝓣 : Tests 𝓝} (𝓥 : Divides 𝓝 𝓣) {below : 𝓝.N → Bool} (𝓔 : Exact 𝓝 below) → QueriesRight 𝓣 𝓔 (own_odd 𝓝 𝓣 below)
queries-right 𝓥 𝓔 n 𝓐 𝓠 𝓦 modes table w gs = right-answers 𝓥 𝓔 𝓠 𝓦 modes table w gs

-- gates are blocks
pub gates-right : {𝓝 : Ops} {𝓣 : Tests 𝓝} (𝓥 : Divides 𝓝 𝓣) {below : 𝓝.N → Bool} (𝓔 : Exact 𝓝 below) (𝓙 : Conjugate 𝓝 𝓔.i)
    → GatesRight 𝓣 𝓔 (own_odd 𝓝 𝓣 below) 𝓙
gates-right {𝓝} {𝓣} 𝓥 {below} 𝓔 𝓙 n 𝓐 𝓠 𝓦 modes table w gs =
    transport
    (λ t. RightAnswers 𝓣 𝓔.half (λ s. s) 𝓔 𝓠 modes (get 𝓝 (run 𝓝 below (own_odd 𝓝 𝓣 below) (operations 𝓔 𝓙 𝓦 gs t) (vacuum 𝓝)))
    (λ a. 𝓦.vac (pulled-through 𝓔 𝓙 𝓦 gs a t)))
    (right-answers 𝓥 𝓔 𝓠 𝓦 modes table w (blocks 𝓔 𝓙 𝓦 gs))
