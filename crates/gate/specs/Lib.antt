pub mod Complex
pub mod Matrix
pub mod Lent
pub mod Given
