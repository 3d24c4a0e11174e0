-- Laws of a program run on the vacuum, for the proofs here and for other crates. Assumes nothing.
pub mod Decoding
pub mod Evolving
pub mod Programs
