-- Definitions.
pub mod Code
