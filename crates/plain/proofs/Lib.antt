-- Laws on the definitions of `plain`. Assumes nothing.
mod Turning
mod Stepping
pub mod Room
