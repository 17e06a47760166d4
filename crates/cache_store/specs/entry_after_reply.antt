-- Document 01, "Storing", source document 001, and the domain reply.
pub mod Stored
pub mod Code
