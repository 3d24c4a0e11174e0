-- Laws of cuts, choices and the state of resolving, for the proofs here and for other crates. Assumes nothing.
pub mod Counts
pub mod Tails
pub mod Choosing
pub mod Records
pub mod States
pub mod Moves
pub mod Dealing
pub mod Ends
pub mod Wholes
pub mod Wires
pub mod Examples
mod Scores
