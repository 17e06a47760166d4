-- Laws.
pub mod NameLaws
