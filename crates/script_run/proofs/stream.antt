-- Laws of the next piece.
mod NextLaws
