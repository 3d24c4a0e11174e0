-- Worked rows of the definitions: choices of cuts; a sign from a gate list to a parity, and runs that lose it; two questions of a run that have no for an
-- answer at once. Assumes nothing.
pub mod SignRow
pub mod Cuts
pub mod SignTape
pub mod SignBlocks
pub mod SignRun
pub mod Lost
pub mod Both
