-- What the contracts of `evolve` speak of. Definitions only.
pub mod Evolve
