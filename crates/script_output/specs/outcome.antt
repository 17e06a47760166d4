-- Document 01, "Examples to hold it to": what is printed after a call.
pub mod Telling
pub mod One
