-- Laws of the lines of `walk`'s input.
pub mod LineLaws
pub mod WholeLaws
