-- Laws on the definitions of `num`, for other crates to cite, and examples.

-- whole numbers
pub mod Squares
pub mod Middle
-- the root
pub mod Grains
pub mod Nearest
pub mod SqrtOf
pub mod SqrtMax
-- sign and order, bits
pub mod OrderLaws
pub mod BitLaws
pub mod Alike
mod Examples
