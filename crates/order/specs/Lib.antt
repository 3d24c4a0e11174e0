-- The order of the wires: pair weights, the cover by paths, the arrangement and the choice; then the same in marks, and in the lent work. Assumes nothing.
pub mod Weights
pub mod Cover
pub mod Arrangement
pub mod Choice
pub mod Keys
pub mod Pairs
pub mod Slice
pub mod Marks
pub mod Lent
