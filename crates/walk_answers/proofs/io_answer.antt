-- Laws.
pub mod TryLaws
