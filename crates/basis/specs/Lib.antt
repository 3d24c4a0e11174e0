-- Basis states in the engine, and the bit register's answers. Definitions only.
pub mod Holds
pub mod Answers
