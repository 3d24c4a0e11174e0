-- Laws on the definitions of `text`.
pub mod Decimals
pub mod Pieces
pub mod Rounding
pub mod HalfEven
pub mod Values
pub mod Lengths
pub mod Few
pub mod Running
pub mod Answered
mod Examples
mod Large
