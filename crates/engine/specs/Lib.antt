pub mod Answers
pub mod Reports
pub mod Claims
