-- What the contracts of `num` speak of. Definitions only.
pub mod Root
pub mod Order
pub mod Bits
-- of its inner functions
pub mod Parts
