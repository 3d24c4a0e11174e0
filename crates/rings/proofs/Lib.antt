-- Laws of every ring, and a solver of equations. Assumes nothing.
pub mod Rings
pub mod Solve
pub mod Trials
