-- What is said of queries at every angle: products, marginals, basis indices, shots, and the list that a query has; the same on real numbers.
-- Definitions only.
pub mod Products
pub mod Marginals
pub mod Asked
pub mod Shots
pub mod OnReals
