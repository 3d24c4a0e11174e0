-- What it means that the engine is the formula at IEEE binary64, from one map to the answers of calls and of runs. Definitions only.
pub mod Floats
pub mod Steps
pub mod Determinants
pub mod Operations
pub mod Products
pub mod Marginals
pub mod Shots
pub mod Matrices
pub mod Majorana
pub mod Calls
pub mod Runs
