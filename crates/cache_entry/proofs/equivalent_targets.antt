-- Laws of equivalent target lists.
pub mod EquivalenceLaws
pub mod MarkingLaws
pub mod ComparisonLaws
pub mod SetLaws
pub mod EquivalentLaws
pub mod Examples
