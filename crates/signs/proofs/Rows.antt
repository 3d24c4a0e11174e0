-- Worked rows of the sign theorem, on three modes. The strings' answer is computed; that the engine gives it is the theorem. R is the rotation of the
-- modes 1 and 2; twice it turns Z of mode 1. X on mode 0 stands between, in front, behind, and twice between, as an operation on the modes 0 and 1.
-- Each value occurs. Assumes nothing.
use mathlib.Core.Path.{◌≡◌, refl, ap, ◌∙◌}
use mathlib.Core.Bool.{xor}
use mathlib.Core.List.{List, [], ◌∷◌}
use Prim.Native.Nat.{ℕ, zero, suc, ◌<◌}
use native.Mathlib.Omega.{arith}
use lib.Dec.{lit<}
use lib.ListN.{get_or}
use Rattle.laws.specs.Zeros.{+0, +1, nz}
use Rattle.local.specs.State.{vacuum, get}
use Rattle.state.specs.Operation.{Engine, effect, Fits}
use Rattle.queries.specs.Products.{z_of, product_of}
use Rattle.signs.specs.Paulis.{Value, nought, plus, minus, float, phases, still, expectation}
use Rattle.signs.specs.Majoranas.{gamma, paired, zs, DistinctModes}
use Rattle.signs.specs.Circuits.{BlockOp, interaction, pulled, Within}
use Rattle.signs.specs.Signs.{run_by}
use Rattle.signs.proofs.Signs.{signs, right-z}
use Rattle.signs.proofs.Gates.{X, XI, R, x_block₁, x_block, r_block, block_of₁, block_of}

-- ---- the circuits

abbrev pub between : List BlockOp
between = R 1 ∷ XI 0 ∷ R 1 ∷ []

abbrev pub in_front : List BlockOp
in_front = XI 0 ∷ R 1 ∷ R 1 ∷ []

abbrev pub behind : List BlockOp
behind = R 1 ∷ R 1 ∷ XI 0 ∷ []

abbrev pub twice : List BlockOp
twice = R 1 ∷ XI 0 ∷ XI 0 ∷ R 1 ∷ []

-- X on mode 0 alone, and on mode 1 alone; an interaction is passed over
abbrev pub alone0 : List BlockOp
alone0 = R 1 ∷ X 0 ∷ R 1 ∷ []

abbrev pub alone1 : List BlockOp
alone1 = R 1 ∷ interaction +1 +0 +1 (record { re = +1; im = +0 }) ∷ X 1 ∷ R 1 ∷ []

-- on the modes 0 and 1, with X on mode 1
abbrev pub lower : List BlockOp
lower = R 0 ∷ X 1 ∷ R 0 ∷ []

-- ---- what the strings say of Z of mode k, on three modes

abbrev pub Says : List BlockOp → ℕ → Value → Type 0
Says xs k v = expectation 3 (pulled xs (zs (k ∷ []))) ≡ v

pub say : Says between 1 minus × Says in_front 1 minus × Says behind 1 minus × Says twice 1 minus
    × Says alone0 1 minus × Says alone1 1 plus × Says lower 0 minus × Says (R 1 ∷ []) 1 nought
unfolding expectation still pulled X XI R x_block₁ x_block r_block block_of₁ block_of xor
say = (refl, refl, refl, refl, refl, refl, refl, refl)

-- ---- so does the engine

-- the engine e answers v for Z of mode k
abbrev pub Answers : Engine → List BlockOp → ℕ → Value → Type 0
Answers e xs k v = nz (z_of (get (run_by e xs vacuum)) k) ≡ float v

answer : (xs : List BlockOp) (k : ℕ) (v : Value) → Within 3 xs → k < 3 → Says xs k v → Answers effect xs k v
answer xs k v within l e = right-z 3 xs (run_by effect xs vacuum) (signs 3 xs within) k l ∙ ap float e

-- all modes are below three
pub fit-between : Within 3 between
unfolding Fits R XI
fit-between = (lit< tt, (lit< tt, (lit< tt, tt)))

pub fit-alone0 : Within 3 alone0
unfolding Fits R X
fit-alone0 = (lit< tt, (lit< tt, (lit< tt, tt)))

pub fit-lower : Within 3 lower
unfolding Fits R X
fit-lower = (lit< tt, (lit< tt, (lit< tt, tt)))

pub rows : Answers effect between 1 minus × Answers effect in_front 1 minus × Answers effect behind 1 minus × Answers effect twice 1 minus
    × Answers effect alone0 1 minus × Answers effect alone1 1 plus × Answers effect lower 0 minus × Answers effect (R 1 ∷ []) 1 nought
unfolding Fits R XI X
rows =
    let l : 1 < 3 = lit< tt in (
      answer between 1 minus fit-between l say.0,
      answer in_front 1 minus (lit< tt, (lit< tt, (lit< tt, tt))) l say.1,
      answer behind 1 minus (lit< tt, (lit< tt, (lit< tt, tt))) l say.2,
      answer twice 1 minus (lit< tt, (lit< tt, (lit< tt, (lit< tt, tt)))) l say.3,
      answer alone0 1 minus fit-alone0 l say.4,
      answer alone1 1 plus (lit< tt, (tt, (lit< tt, (lit< tt, tt)))) l say.5,
      answer lower 0 minus fit-lower (lit< tt) say.6,
      answer (R 1 ∷ []) 1 nought (lit< tt, tt) l say.7,
    )

-- ---- a product and an entry: after one rotation neither Z of mode 1 nor Z of mode 2 has a value, and their product is 1; with X on mode 1 behind
-- it the product is -1

abbrev rotated : List BlockOp
rotated = R 1 ∷ []

abbrev crossed : List BlockOp
crossed = R 1 ∷ X 1 ∷ []

abbrev pair : List ℕ
pair = 1 ∷ 2 ∷ []

modes : DistinctModes 3 pair
modes = record { below = below; different = different }
  where
    below : (i : ℕ) → i < 2 → get_or pair i 0 < 3
    below zero l = lit< tt
    below (suc zero) l = lit< tt
    below (suc (suc i)) l = absurd (omega arith)

    different : (i j : ℕ) → i < 2 → j < 2 → get_or pair i 0 ≡ get_or pair j 0 → i ≡ j
    different zero zero l m e = refl
    different zero (suc zero) l m e = absurd (omega arith)
    different (suc zero) zero l m e = absurd (omega arith)
    different (suc zero) (suc zero) l m e = refl
    different (suc (suc i)) j l m e = absurd (omega arith)
    different zero (suc (suc j)) l m e = absurd (omega arith)
    different (suc zero) (suc (suc j)) l m e = absurd (omega arith)

say-product : (expectation 3 (pulled rotated (zs pair)) ≡ plus) × (expectation 3 (pulled crossed (zs pair)) ≡ minus)
unfolding expectation still pulled X R x_block₁ r_block block_of₁ block_of xor
say-product = (refl, refl)

abbrev product : List BlockOp → Value → Type 0
product xs v = nz (product_of (get (run_by effect xs vacuum)) pair).value ≡ float v

pub products : product rotated plus × product crossed minus
unfolding Fits R X
products = (
  (signs 3 rotated (lit< tt, tt)).product pair modes ∙ ap float say-product.0,
  (signs 3 crossed (lit< tt, (lit< tt, tt))).product pair modes ∙ ap float say-product.1,
)

say-entry : expectation 3 (pulled rotated (paired 3 (gamma 2) (gamma 4))) ≡ plus
unfolding expectation still phases pulled R r_block block_of xor
say-entry = refl

pub entry : nz (get (run_by effect rotated vacuum) 2 4) ≡ +1
unfolding Fits R
entry = (signs 3 rotated (lit< tt, tt)).covariance 2 4 (lit< tt) (lit< tt) ∙ ap float say-entry
