-- What the contracts of `classify` speak of. Definitions only.
pub mod Diagonal
pub mod Classify
-- of an inner function
pub mod Parts
