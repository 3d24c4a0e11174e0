pub mod Laid
pub mod Room
pub mod Rows
pub mod Claims
