-- The layout of the lent work, which the passes from fusing to the order share. Assumes nothing.
pub mod Sizes
pub mod Rows
pub mod Marks
pub mod Lent
pub mod Columns
pub mod Kinds
