-- Laws.
pub mod RestLaws
