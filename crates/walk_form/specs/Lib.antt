-- The walk as a host keeps it.
pub mod held
pub mod packed
