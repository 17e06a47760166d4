-- The bytes of a reply: units, texts, and the fixed parts of header and entries.
pub mod texts
pub mod reader
