-- Basis states under operations, and the answers of every query on them. Assumes nothing.
pub mod Settling
pub mod Steps
pub mod Pairs
pub mod Listed
pub mod Products
pub mod Asked
pub mod Marked
pub mod Marginals
pub mod Measured
pub mod Shots
pub mod Examples
