-- What the worked rows speak of. Definitions only.
pub mod Lost
