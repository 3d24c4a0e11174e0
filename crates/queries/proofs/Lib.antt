-- Laws on the definitions of `queries`, for other crates to cite. Assumes nothing.
pub mod Searches
pub mod Among
pub mod First
pub mod Marking
pub mod Stopping
pub mod Filling
pub mod Leaving
pub mod Sampling
pub mod Same
pub mod Indices
pub mod One
pub mod Rows
pub mod Draws
pub mod Apart
pub mod Edges
