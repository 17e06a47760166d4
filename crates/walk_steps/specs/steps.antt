-- The steps of the walk: source document 000.
pub mod Steps
pub mod Held
pub mod Code
