-- The definitions that the laws speak of, and that contracts of other crates cite. Assumes nothing.
pub mod Views
pub mod Tests
pub mod Lists
pub mod Slices
pub mod Tables
pub mod Bounds
pub mod Phase
pub mod Zeros
pub mod Dyadic
pub mod Matrix
pub mod Maps
pub mod Steps
pub mod Loops
