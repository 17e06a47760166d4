-- Laws.
pub mod ShownLaws
