-- Laws on the definitions of `local`. Assumes nothing.
pub mod Stored
mod Settling
pub mod Steps
pub mod Postponing
mod Structs
mod DetLaws
mod Examples
pub mod SameSigned
mod Four
