-- Document 01, "The listing": how texts and numbers are spelled.
pub mod Spelling
