-- Laws on the definitions of `pfaffian`, for other crates to cite, and examples. Assumes nothing.
pub mod Seen
pub mod Literals
pub mod Keeping
pub mod Pivots
pub mod Elimination
pub mod Congruent
pub mod Number
pub mod Stops
pub mod Pairing
pub mod TwoRows
pub mod Standing
pub mod Listing
pub mod SameShots
pub mod Examples
