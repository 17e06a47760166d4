-- Laws of this crate.
pub mod EntryLaws
pub mod CallLaws
pub mod KeepLaws
