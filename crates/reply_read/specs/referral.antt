-- Document 01, "Layouts": requests and replies as bytes.
pub mod Request
pub mod Replies
pub mod Code
