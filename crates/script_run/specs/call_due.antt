-- The calls of the program `walk`.
pub mod Calling
pub mod Code
