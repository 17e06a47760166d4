-- Laws.
pub mod PackLaws
