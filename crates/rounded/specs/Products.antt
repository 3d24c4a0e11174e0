-- WHAT IT MEANS THAT THE ENGINE'S Z PRODUCT IS THE FORMULA, ROUNDED: `pfaffian_of` of crate `pfaffian` and `product_of` of crate `queries`, by their numbers,
-- are those of crates `formulas` and `answers`, of which the theorem on products speaks, at binary64. A stop has the number 0.0, as the formula has there. All
-- floats are meant, and every bit. Definitions only. A public promise rests on this.
use Rattle.std.specs.Prelude.{◌≡◌, List, ℕ}
use Rattle.laws.specs.Matrix.{Mat}
use Rattle.pfaffian.specs.Pfaffian.{pfaffian_of}
use Rattle.queries.specs.Answers.{taken_apart}
use Rattle.queries.specs.Products.{product_of}
use Rattle.formulas.specs.Pfaffians.{own_pfaffian}
use Rattle.answers.specs.Products.{product_of as product'}
use Rattle.rounded.specs.Floats.{floats, float_tests}

pub record RoundedProducts : Type 0 where
  pub pfaffian : (dim : ℕ) (a : Mat) → (taken_apart (λ x. x) (pfaffian_of dim a)).value ≡ own_pfaffian floats float_tests dim a
  -- over the modes l
  pub product : (e : Mat) (l : List ℕ) → (product_of e l).value ≡ product' floats float_tests e l
