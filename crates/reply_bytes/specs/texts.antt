-- Bytes: numbers, texts and spans of units in them.
pub mod Bytes
pub mod Code
