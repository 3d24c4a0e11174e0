-- What the contracts of `tape` speak of: the tape of document 01, read from left to right. Definitions only.
pub mod Bounds
pub mod Headed
pub mod Step
pub mod Checked
pub mod Told
pub mod Header
pub mod Codes
pub mod Records
pub mod Gates
pub mod Parse
pub mod Labels
pub mod Cursor
pub mod Good
