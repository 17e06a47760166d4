-- What the calls keep.
pub mod Named
pub mod Keeps
pub mod Stands
pub mod Failures
pub mod Code
