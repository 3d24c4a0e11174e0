-- The engine's formulas over any numbers, with what they ask of numbers. Definitions only.
pub mod Numbers
pub mod Engine
pub mod Determinants
pub mod Pfaffians
