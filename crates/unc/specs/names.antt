-- Document 01, "Paths".
pub mod Names
pub mod Paths
pub mod Code
