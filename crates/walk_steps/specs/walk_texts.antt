-- The texts of a walk.
pub mod Texts
pub mod Code
