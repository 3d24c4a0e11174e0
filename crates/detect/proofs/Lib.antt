-- Laws of the counts, the operations and the tables, for the proofs here and for other crates. Assumes nothing.
pub mod Items
pub mod Sums
pub mod Placing
pub mod Emitting
pub mod Keeping
pub mod Entries
pub mod Slots
pub mod Wires
pub mod Detecting
pub mod Answering
pub mod Checking
pub mod Reports
pub mod Edges
pub mod Judging
pub mod Apart
