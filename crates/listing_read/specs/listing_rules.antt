-- Document 01, "The listing": what a text says, and when it is read.
pub mod Entries
pub mod Read
