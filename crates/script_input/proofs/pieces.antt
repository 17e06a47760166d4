-- Laws of a line that comes in pieces.
pub mod PieceLaws
