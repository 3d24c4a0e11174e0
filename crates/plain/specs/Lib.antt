-- What the contracts of `plain` speak of. Definitions only.
pub mod Plain
pub mod Calls
-- of its inner functions
pub mod Parts
