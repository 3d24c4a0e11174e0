-- The register of a tape and the runs of its events and items. Assumes nothing.
pub mod Fusing
pub mod Compressing
pub mod Readings
pub mod Changes
pub mod Permuting
pub mod Relabelling
pub mod Gates
pub mod Classing
pub mod Choosing
pub mod Tails
pub mod Resolving
pub mod Remainders
pub mod Items
pub mod Tapes
pub mod Examples
