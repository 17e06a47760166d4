-- The calls of a host.
pub mod Calls
pub mod Code
