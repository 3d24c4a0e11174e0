-- Laws on the definitions of `majorana`, for its proofs and for other crates to cite.
pub mod Entries
pub mod OneRoot
