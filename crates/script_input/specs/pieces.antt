-- A line of the input of `walk`, as pieces of the input come.
pub mod Pieces
