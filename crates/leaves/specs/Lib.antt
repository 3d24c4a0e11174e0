pub mod Slices
pub mod Classes
