-- The engine beside the plain one, from one step to the answers of calls. Assumes nothing.
pub mod Steps
pub mod Operations
pub mod Beside
mod Refused
