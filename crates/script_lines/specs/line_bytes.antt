-- The bytes of a line of `walk`'s input, and hex digits.
pub mod Hexes
pub mod Held
