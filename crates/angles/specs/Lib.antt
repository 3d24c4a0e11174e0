-- What the theorem at every angle speaks of: postponed signs, qubits and their matrices; and what is said, of every list of blocks, of products of Majorana
-- operators, and of engines that lose a sign. Definitions only.
pub mod Postponed
pub mod Qubits
pub mod Matrices
pub mod Angles
pub mod Wick
pub mod Lost
