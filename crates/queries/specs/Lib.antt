-- What the contracts of `queries` speak of. Definitions only.
pub mod Lists
pub mod Answers
pub mod Products
pub mod Marginals
pub mod Basis
pub mod Samples
pub mod Calls
pub mod Draws
-- of its inner functions
pub mod Inner
