-- What is said of the engine beside the plain one. Definitions only.
pub mod Beside
pub mod Engines
