-- What a ring is. Definitions only.
pub mod Rings
