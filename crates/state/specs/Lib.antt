-- What the contracts of `state` speak of. Definitions only.
pub mod Bounds
pub mod Operation
pub mod Modes
pub mod Answers
pub mod Questions
pub mod Calls
-- of its inner functions
pub mod Parts
