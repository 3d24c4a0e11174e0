-- What the register claim speaks of. Definitions only.
pub mod Modes
pub mod Questions
pub mod Queries
