-- What the contracts of `resolve` speak of: the second half of 000's `fuse`, from the blocks to the item list. Definitions only.
pub mod Items
pub mod Cuts
pub mod Choose
pub mod Searched
pub mod Resolve
pub mod Slots
pub mod Whole
pub mod Lent
