-- Laws.
pub mod RoundLaws
pub mod FailLaws
pub mod TableLaws
