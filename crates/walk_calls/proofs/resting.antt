-- Laws.
pub mod RestingLaws
