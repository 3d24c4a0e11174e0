-- What the contracts of `real` and of the crates above say of maps and matrices. Definitions only.
pub mod Maps
pub mod Squares
