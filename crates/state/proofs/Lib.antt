-- Laws on the definitions of `state`. Assumes nothing.
pub mod Steps
pub mod Wholes
pub mod Operations
pub mod Permutations
pub mod Inverse
pub mod Counted
mod Words
mod Marks
pub mod Questions
pub mod Pairs
mod Examples
pub mod Fills
pub mod Apart
