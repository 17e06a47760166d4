-- Document 01, "The listing": whether a text is one.
pub mod Code
