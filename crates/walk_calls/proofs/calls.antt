-- Laws.
pub mod StartLaws
pub mod AnswerLaws
