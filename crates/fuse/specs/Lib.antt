-- What the contracts of `fuse` speak of: 000's fusing up to the splits, over one list of events, and where the events stand in the lent work.
-- Definitions only.
pub mod Events
pub mod Relabel
pub mod Fuse
pub mod Compress
pub mod Passes
pub mod Layout
pub mod Slotted
pub mod Lent
