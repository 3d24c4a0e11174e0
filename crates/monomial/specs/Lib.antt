-- Monomial blocks, basis states and signed permutations: what the theorems of this crate speak of. Definitions only.
pub mod Groups
pub mod Monomial
pub mod Basis
pub mod Tolerance
pub mod Algebra
