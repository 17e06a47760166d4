-- Equivalent target lists: source document 001.
pub mod Equivalence
pub mod Code
