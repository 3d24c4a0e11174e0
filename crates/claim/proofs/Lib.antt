-- The register claim for whole tapes. Assumes nothing.
pub mod Modes
pub mod Shares
pub mod Operations
pub mod Rotations
pub mod Matchgates
pub mod Items
pub mod Tables
pub mod Tapes
pub mod Identity
pub mod Plain
pub mod Left
pub mod Stops
pub mod Questions
pub mod Answering
