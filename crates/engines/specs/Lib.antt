-- Engines that the register claim is asked of. Definitions only.
pub mod Engines
