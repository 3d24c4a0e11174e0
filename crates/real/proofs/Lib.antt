-- Laws of `real` that the crates above cite.
pub mod Squares
