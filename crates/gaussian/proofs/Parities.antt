-- A product query of qubits and the string of its Zs: the modes left of the list are different, and Z on each of them is Z on the mode of each listed qubit,
-- since two Zs on one mode cancel. So where the state is right after a list of blocks, an answered query is the value of that string. Rows of such strings,
-- and of entries, stand first. Assumes nothing.
use mathlib.Core.Path.{◌≡◌, refl, sym, ap, ap₂, ◌∙◌}
use mathlib.Core.Bool.{Bool, true, false, not, cond, xor}
use mathlib.Core.List.{List, [], ◌∷◌, map}
use Prim.Native.Nat.{ℕ, ◌<◌}
use lib.Dec.{eqb}
use lib.ListN.{get_or, length}
use lib.Ieee.{Float}
use borrow.Author.Tests.{eqb-true}
use Rattle.std.proofs.lemmas.List.{get_or-map, length-map}
use Rattle.laws.specs.Zeros.{nz}
use Rattle.laws.specs.Phase.{i0}
use Rattle.laws.specs.Tables.{mode_at}
use Rattle.laws.proofs.Integers.{eqb_comm}
use Rattle.local.specs.State.{state_at}
use Rattle.state.specs.Bounds.{dim_of}
use Rattle.state.specs.Modes.{is_permutation}
use Rattle.state.specs.Questions.{state_ok}
use Rattle.state.proofs.Permutations.{mode-below}
use Rattle.state.proofs.Questions as questions
use Rattle.queries.specs.Lists.{oddly, passing, mode_listed, odd_mode, odd_modes}
use Rattle.queries.specs.Calls.{expectation_z_product_of}
use Rattle.queries.proofs.Searches.{odd-same, passing-ascends}
use Rattle.basis.proofs.Listed.{listed-once, odd-first, odd-listed, odd-counted}
use Rattle.basis.proofs.Products.{product-answered}
use Rattle.signs.specs.Paulis.{p_i, p_z, plus, minus, float, phases, still, expectation}
use Rattle.signs.specs.Majoranas.{listed, zs, DistinctModes}
use Rattle.signs.specs.Circuits.{BlockOp, pulled}
use Rattle.signs.specs.Signs.{Right}
use Rattle.signs.proofs.Gates.{X, x_block₁, block_of₁}
use Rattle.claim.specs.Queries.{product, answer, Begins}
use Rattle.claim.proofs.Questions.{answered-exactly}
use Rattle.gaussian.specs.Claim.{Left}
use Rattle.gaussian.specs.Signs.{value_after, entry_of, parity_of, RightParity, RightSigns}

-- ---- rows of what the clause compares with, on two modes after X on mode 0

abbrev flipped : List BlockOp
flipped = X 0 ∷ []

-- Z of mode 0 is the entry of its two operators in their order, and minus that in the other
entries : (value_after 2 flipped (entry_of 2 0 1) ≡ minus) × (value_after 2 flipped (entry_of 2 1 0) ≡ plus)
unfolding expectation still phases pulled X x_block₁ block_of₁
entries = (refl, refl)

-- qubit 1 is on mode 0
abbrev modes : List ℕ
modes = 1 ∷ 0 ∷ []

-- a parity is asked on the modes of the table; a qubit listed twice is not asked
parities : (value_after 2 flipped (parity_of modes (1 ∷ [])) ≡ minus) × (value_after 2 flipped (parity_of modes (0 ∷ [])) ≡ plus)
    × (value_after 2 flipped (parity_of modes (1 ∷ 0 ∷ 1 ∷ [])) ≡ plus)
unfolding expectation still pulled X x_block₁ block_of₁ xor
parities = (refl, refl, refl)

-- ---- a mode is listed an odd number of times

listed-odd : (js : List ℕ) (w : ℕ) → listed js w ≡ oddly (λ j. eqb (get_or js j 0) w) (length js)
unfolding oddly xor
listed-odd [] w = refl
listed-odd (j ∷ js) w =
    by (eqb w j) (listed js w) ∙ ap₂ (λ t l. cond t (not l) l) (eqb_comm w j) (listed-odd js w)
    ∙ sym (odd-first (λ i. eqb (get_or (j ∷ js) i 0) w) (length js))
  where
    by : (t l : Bool) → xor t l ≡ cond t (not l) l
    by true true = refl
    by true false = refl
    by false true = refl
    by false false = refl

-- ---- the modes left of a list

module _ (n : ℕ) (modes qs : List ℕ) where
  pub modes-left : DistinctModes n (odd_modes n modes qs)
  unfolding odd_modes
  modes-left =
      let odd = odd_mode modes qs (length qs) in
      let up = passing-ascends odd n in
      record { below = up.below; different = listed-once odd n (passing odd n) up }

  module _ (p : is_permutation n modes ≡ true) (below : (j : ℕ) → j < length qs → get_or qs j 0 < n) where
    listed-left : (w : ℕ) → listed (odd_modes n modes qs) w ≡ listed (map (mode_at modes) qs) w
    unfolding odd_modes
    listed-left w =
        listed-odd (odd_modes n modes qs) w
        ∙ odd-listed (odd_mode modes qs (length qs)) (λ k. eqb k w) n
        ∙ odd-counted (mode_listed modes qs) (λ k. eqb k w) n (length qs) (λ j g. mode-below n modes p (get_or qs j 0) (below j g))
        ∙ odd-same (λ j. eqb (mode_listed modes qs j) w) (λ j. eqb (get_or (map (mode_at modes) qs) j 0) w) (length qs)
        (λ j g. ap (λ m. eqb m w) (sym (get_or-map (mode_at modes) qs j 0 0 g)))
        ∙ ap (oddly (λ j. eqb (get_or (map (mode_at modes) qs) j 0) w)) (sym (length-map qs (mode_at modes)))
        ∙ sym (listed-odd (map (mode_at modes) qs) w)

    pub parity-left : zs (odd_modes n modes qs) ≡ parity_of modes qs
    parity-left = λ t. record { phase = i0; at = λ w. cond (listed-left w t) p_z p_i }

-- ---- a query on a state that passes 16

module _ (n : ℕ) (xs : List BlockOp) (s : List Float) (modes : List ℕ) (ok : state_ok n s modes ≡ true) (state : Right n xs (state_at (dim_of n) s)) where
  pub parity-right : (qs : List ℕ) (w : List Float)
      → RightParity n qs w (value_after n xs (parity_of modes qs)) (expectation_z_product_of n s modes qs w).told
  parity-right qs w = record {
    answered = λ p. eqb-true (expectation_z_product_of n s modes qs w).told.number 0 (answered-exactly n s modes ok (product qs w) ∙ p);
    right = λ e.
        let a = product-answered n s modes qs w e in
        ap (λ t. nz t.value) a.1
        ∙ state.product (odd_modes n modes qs) (modes-left n modes qs)
        ∙ ap (λ z. float (value_after n xs z)) (parity-left n modes qs (questions.asked n s modes ok).permutation a.0);
  }

-- ---- every answer about signs, of a state for whose blocks it is right, and which passes 16 with any table lent for its own

pub right-signs : (x : Left) (xs : List BlockOp) → Right x.n xs (state_at (dim_of x.n) x.state)
    → ((modes : List ℕ) → Begins x.n x.modes modes → state_ok x.n x.state modes ≡ true) → RightSigns answer x xs
right-signs x xs state ok = record {
  covariance = λ r c hr hc. state.covariance r c hr hc;
  parities = λ modes lent. parity-right x.n xs x.state modes (ok modes lent) state;
}
