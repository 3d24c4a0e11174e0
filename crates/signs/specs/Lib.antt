-- What the sign theorem speaks of: Pauli strings, blocks, Majorana operators, and the operations that come from blocks. Definitions only.
pub mod Paulis
pub mod Blocks
pub mod Majoranas
pub mod Circuits
pub mod Signs
pub mod Engines
