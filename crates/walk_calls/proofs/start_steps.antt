-- Laws.
pub mod StartLaws
