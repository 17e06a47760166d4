-- The input of the program `walk` as it comes.
pub mod pieces
