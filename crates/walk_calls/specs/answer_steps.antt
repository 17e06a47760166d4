-- The answers to the questions of a walk that is held.
pub mod Code
