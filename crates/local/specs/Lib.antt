-- What the contracts of `local` speak of. Definitions only.
pub mod Bounds
pub mod State
pub mod Det
pub mod Apply
-- of its inner functions
pub mod Parts
pub mod Signed
