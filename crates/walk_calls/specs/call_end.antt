-- How a call ends.
pub mod Closing
pub mod Code
