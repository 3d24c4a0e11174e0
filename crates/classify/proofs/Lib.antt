-- Laws for the proofs of `classify` and of the crates above, and worked values of its definitions.
pub mod Norms
pub mod Angled
pub mod Halves
pub mod Turned
mod Examples
