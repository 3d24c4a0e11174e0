-- The theorems on queries at every angle. Assumes nothing.
pub mod Products
pub mod Shifts
pub mod Marginals
pub mod Shots
pub mod Through
pub mod Bits
pub mod Asked
pub mod Modes
pub mod Examples
pub mod Circuits
pub mod OnReals
pub mod RealShots
