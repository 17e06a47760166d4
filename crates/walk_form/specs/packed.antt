-- A walk as units.
pub mod Packing
