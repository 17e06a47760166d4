-- Laws.
pub mod AnswerLaws
