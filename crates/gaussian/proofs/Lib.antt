-- Laws of a run, for the proofs here and for other crates. Assumes nothing.
pub mod Verdicts
pub mod Answering
pub mod Accepted
pub mod Claim
pub mod Parities
pub mod Signs
pub mod Expectation
pub mod Rows
pub mod Edges
