-- Laws of the events in the lent work, for the proofs of the passes and for other crates. Assumes nothing.
pub mod Places
pub mod Searches
pub mod Steps
pub mod Listed
pub mod Labels
pub mod Examples
