-- The theorem at every angle: postponed signs, entries, blocks, matrices, Wick's theorem, the engine's determinant and its Pfaffian, wrong engines. Assumes
-- nothing.
pub mod Lists
pub mod Indices
pub mod Postponed
pub mod Passing
pub mod Majoranas
pub mod Clifford
pub mod Blocks
pub mod Steps
pub mod Vacuum
pub mod Runs
pub mod Rotations
pub mod Matrices
pub mod Spans
pub mod Wick
pub mod Products
pub mod Elimination
pub mod OwnOdd
pub mod Swaps
pub mod Agree
pub mod OwnPfaffian
pub mod Lost
