-- The engine's Z product is the formula at binary64 (specs/Products.antt). Assumes nothing.
use mathlib.Core.Path.{◌≡◌, refl, ap, ◌∙◌}
use mathlib.Core.Bool.{Bool, true, false, cond}
use mathlib.Core.List.{List}
use Prim.Native.Nat.{ℕ, zero, suc, ◌-◌, ◌/◌, ◌%◌}
use lib.Dec.{eqb}
use lib.Ieee.{Float, binary64, mul, neg, lt, eq}
use Rattle.laws.specs.Zeros.{+0, +1}
use Rattle.laws.specs.Matrix.{Mat}
use Rattle.num.specs.Order.{abs_of}
use Rattle.pfaffian.specs.declared.pairs.End.{End}
use Rattle.pfaffian.specs.declared.pairs.End.TheVariants.{Value, Stopped}
use Rattle.pfaffian.specs.Pfaffian.{search, pivoted, less, pfaffian_of}
use Rattle.pfaffian.proofs.Number.{number_of, pf, pfaffian_number}
use Rattle.pfaffian.proofs.Stops.{end-number}
use Rattle.queries.specs.Answers.{taken_apart}
use Rattle.queries.specs.Products.{dim_left, restricted, product_of}
use Rattle.queries.proofs.Rows.{product-number}
use Rattle.formulas.specs.Pfaffians.{search as search', pivot_of as pivot', pf as pf', own_pfaffian}
use Rattle.answers.specs.Products.{product_of as product'}
use Rattle.rounded.specs.Floats.{floats, float_tests}
use Rattle.rounded.specs.Products.{RoundedProducts}

search-is : (row : ℕ → Float) (n j : ℕ) (best : Float) (p : ℕ) → search row n j best p ≡ search' floats float_tests row n j best p
unfolding search search'
search-is row zero j best p = refl
search-is row (suc n) j best p = by (lt best (abs_of (row j))) (λ b q. search-is row n (suc j) b q)
  where
    by : (c : Bool) → ((b : Float) (q : ℕ) → search row n (suc j) b q ≡ search' floats float_tests row n (suc j) b q)
        → ◌≡◌ {A = Float × ℕ} (elim c [ true ↦ search row n (suc j) (abs_of (row j)) j | false ↦ search row n (suc j) best p ])
        (elim c [ true ↦ search' floats float_tests row n (suc j) (abs_of (row j)) j | false ↦ search' floats float_tests row n (suc j) best p ])
    by true ih = ih (abs_of (row j)) j
    by false ih = ih best p

pf-is : (p : ℕ) (a : Mat) (k dim : ℕ) (acc : Float) → pf a p k dim acc ≡ pf' floats float_tests a p k dim acc
unfolding pf pf'
pf-is zero a k dim acc = refl
pf-is (suc p) a k dim acc =
    ap after (search-is (a k) (dim - suc (suc k)) (suc (suc k)) (abs_of (a k (suc k))) (suc k))
    ∙ ap (cond (eq t.0 +0) +0)
    (pf-is p (less k (pivoted t.1 (suc k) a)) (suc (suc k)) dim (mul binary64 (cond (eqb t.1 (suc k)) acc (neg acc)) (pivoted t.1 (suc k) a k (suc k))))
  where
    t : Float × ℕ
    t = pivot' floats float_tests (a k) k dim

    after : Float × ℕ → Float
    after s =
        cond (eq s.0 +0) +0
        (pf (less k (pivoted s.1 (suc k) a)) p (suc (suc k)) dim (mul binary64 (cond (eqb s.1 (suc k)) acc (neg acc)) (pivoted s.1 (suc k) a k (suc k))))

-- the Pfaffian without its stop
pub number-is : (dim : ℕ) (a : Mat) → pfaffian_number dim a ≡ own_pfaffian floats float_tests dim a
unfolding pfaffian_number own_pfaffian
number-is dim a = ap (cond (eqb (dim % 2) 1) +0) (pf-is (dim / 2) a 0 dim +1)

pfaffian-is : (dim : ℕ) (a : Mat) → (taken_apart (λ x. x) (pfaffian_of dim a)).value ≡ own_pfaffian floats float_tests dim a
pfaffian-is dim a = value (pfaffian_of dim a) ∙ end-number dim a ∙ number-is dim a
  where
    value : (p : End) → (taken_apart (λ x. x) p).value ≡ number_of p
    value (Value x) = refl
    value (Stopped k) = refl

pub product-is : (e : Mat) (l : List ℕ) → (product_of e l).value ≡ product' floats float_tests e l
unfolding product'
product-is e l = product-number e l ∙ number-is (dim_left l) (restricted e l)

pub rounded-products : RoundedProducts
rounded-products = record { pfaffian = pfaffian-is; product = product-is }
