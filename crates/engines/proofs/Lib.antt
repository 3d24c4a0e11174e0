-- The register claim holds of the engine, and is false of engines that do nothing. Assumes nothing.
pub mod Refused
