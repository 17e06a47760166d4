-- Document 01, "The listing": what one line says.
pub mod Lines
pub mod Code
