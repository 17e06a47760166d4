-- Document 01, "Layouts": DC and domain replies.
pub mod NameLists
pub mod Code
