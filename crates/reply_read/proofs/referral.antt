-- Laws of requests and replies.
pub mod RequestLaws
pub mod TextLaws
pub mod EntryLaws
pub mod TargetLaws
pub mod ReplyLaws
pub mod SaysLaws
pub mod Examples
