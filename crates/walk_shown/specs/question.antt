-- What a host is shown of a question and of an end.
pub mod Shown
pub mod Code
