-- Exact numbers, and worked rows over them. Assumes nothing.
pub mod Modulo
pub mod Thirteen
pub mod Rows
