pub mod Stored
pub mod Products
pub mod Examples
