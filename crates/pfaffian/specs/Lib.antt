-- What the contracts of `pfaffian` speak of. Definitions only.
pub mod Work
pub mod Pfaffian
pub mod Shot
-- of its inner functions
pub mod Turns
