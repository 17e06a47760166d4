-- Laws of spelling.
pub mod PutLaws
pub mod SpellingLaws
pub mod DecimalLaws
