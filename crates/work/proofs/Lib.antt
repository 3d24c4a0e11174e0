-- Laws of the marks, for other crates. Assumes nothing.
pub mod Records
pub mod KindLaws
pub mod ItemKinds
