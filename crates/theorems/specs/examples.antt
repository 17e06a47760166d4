-- Document 01, "Examples to hold it to": those marked P.
pub mod Examples
