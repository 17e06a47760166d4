-- The cycle of steps.
pub mod Code
