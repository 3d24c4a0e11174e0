-- The bit register of demand 3, and what the theorems about fusing speak of. Definitions only.
pub mod Register
pub mod Runs
pub mod Bits
pub mod Blocks
pub mod Follows
