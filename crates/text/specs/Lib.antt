-- What the contracts of `text` speak of. Definitions only.
pub mod Bounds
pub mod Ascii
pub mod Millionths
pub mod HalfEven
pub mod Room
pub mod Lines
pub mod Print
