-- Document 01, "The listing": what spelled texts and numbers say.
pub mod Reading
pub mod Code
