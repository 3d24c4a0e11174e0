-- What the contracts of `detect` speak of: 000's `compile`, from the items to the report and the operations. Definitions only.
pub mod Operation
pub mod Records
pub mod Emit
pub mod Counts
pub mod Kept
pub mod Report
pub mod Words
pub mod Compile
pub mod Answers
pub mod Questions
pub mod Told
pub mod Lending
pub mod Program
pub mod Lent
