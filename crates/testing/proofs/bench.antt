-- Laws of what is handed on.
pub mod FoundLaws
