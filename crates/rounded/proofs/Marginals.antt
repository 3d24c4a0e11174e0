-- The engine's marginal is the formula at binary64 (specs/Marginals.antt). Assumes nothing.
use mathlib.Core.Path.{◌≡◌, ap, ◌∙◌}
use mathlib.Core.Bool.{cond, ◌&&◌}
use mathlib.Core.List.{List}
use Prim.Native.Nat.{ℕ, ◌+◌, ◌/◌, ◌%◌}
use lib.Dec.{eqb}
use lib.ListN.{get_or}
use lib.Ieee.{binary64, add, sub, mul, neg}
use Rattle.laws.specs.Zeros.{+1}
use Rattle.laws.specs.Matrix.{Mat}
use Rattle.pfaffian.specs.Shot.{half}
use Rattle.pfaffian.proofs.Number.{pfaffian_number}
use Rattle.queries.specs.Lists.{oddly, noted_modes}
use Rattle.queries.specs.Products.{restricted, dim_left}
use Rattle.queries.specs.Marginals.{is_one, half_spin_of, halved, asked_matrix, sign_of, at_least_zero_of}
use Rattle.queries.proofs.Rows.{marked-number}
use Rattle.answers.specs.Marginals.{half_spin_of as half_spin', asked_matrix as asked', sign_of as sign', marked_of as marked'}
use Rattle.rounded.specs.Floats.{floats}
use Rattle.rounded.specs.Marginals.{RoundedMarginals}
use Rattle.rounded.proofs.Steps.{sg-is}
use Rattle.rounded.proofs.Products.{number-is}

asked-is : (e : Mat) (mark : ℕ → ℕ) (l : List ℕ) → asked_matrix e mark l ≡ asked' floats half e mark l
unfolding sub
asked-is e mark l = λ i r c.
    let x = halved (restricted e l) r c in
    let spin : half_spin_of (mark (get_or l (r / 2) 0)) ≡ half_spin' floats half (mark (get_or l (r / 2) 0)) =
    sg-is (is_one (mark (get_or l (r / 2) 0))) half in
    cond (eqb (r % 2) 0 && eqb c (r + 1)) (add binary64 x (spin i)) (cond (eqb (c % 2) 0 && eqb r (c + 1)) (add binary64 x (neg (spin i))) x)

sign-is : (n : ℕ) (mark : ℕ → ℕ) → sign_of n mark ≡ sign' floats half n mark
sign-is n mark = sg-is (oddly (λ k. is_one (mark k)) n) +1

pub rounded-marginals : RoundedMarginals
unfolding marked'
rounded-marginals e n mark =
    let l = noted_modes n mark in
    marked-number e n mark
    ∙ (λ i. at_least_zero_of (mul binary64 (sign-is n mark i) (pfaffian_number (dim_left l) (asked-is e mark l i))))
    ∙ ap (λ x. at_least_zero_of (mul binary64 (sign' floats half n mark) x)) (number-is (dim_left l) (asked' floats half e mark l))
