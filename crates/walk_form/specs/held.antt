-- The walk as it is held, and its form.
pub mod Walks
pub mod Code
