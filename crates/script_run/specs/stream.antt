-- When a piece is read, and what a call leaves.
pub mod Stream
