-- Laws of the listing.
pub mod FormLaws
pub mod EntryLaws
pub mod ListLaws
pub mod UsedLaws
