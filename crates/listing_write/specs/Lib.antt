-- Document 01, "The listing".
pub mod Form
pub mod Listed
pub mod Keys
pub mod Code
