-- The product of Z over modes (001, `expectation_z_product`): the Pfaffian of the covariance's rows and columns that are theirs, with the row where it
-- stopped. Definitions only. A public promise rests on this.
use Rattle.std.specs.Prelude.{List, ℕ, ◌+◌, ◌*◌, ◌/◌, ◌%◌, get_or, length, Float}
use Rattle.laws.specs.Matrix.{Mat}
use Rattle.pfaffian.specs.Pfaffian.{pfaffian_of}
use Rattle.queries.specs.Answers.{Number, taken_apart}

-- `idx`: of each mode k of the list its rows 2k and 2k + 1
abbrev pub index_of : List ℕ → ℕ → ℕ
index_of l r = 2 * get_or l (r / 2) 0 + r % 2

-- Z of mode k: what the covariance e has of its two Majorana operators
abbrev pub z_of : Mat → ℕ → Float
z_of e k = e (2 * k) (2 * k + 1)

-- the covariance e, only those rows and columns
abbrev pub restricted : Mat → List ℕ → Mat
restricted e l r c = e (index_of l r) (index_of l c)

-- "dim is twice the modes left"
abbrev pub dim_left : List ℕ → ℕ
dim_left l = 2 * length l

unfoldable pub product_of : Mat → List ℕ → Number
product_of e l = taken_apart (λ x. x) (pfaffian_of (dim_left l) (restricted e l))
