-- What the theorem from gate matrices speaks of, and what it says. Definitions only.
pub mod Matrices
pub mod Maps
pub mod Gates
pub mod Residuals
pub mod Complex
pub mod Words
pub mod InWords
pub mod Circuits
pub mod Fused
pub mod Renamed
pub mod Regrouped
pub mod Compiled
pub mod Phases
pub mod OnReals
