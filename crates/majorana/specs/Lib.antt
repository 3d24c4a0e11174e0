-- What the contracts of `majorana` speak of. Definitions only.
pub mod Majorana
pub mod Numbers
-- of the inner functions
pub mod Parts
