-- Laws of storing.
pub mod HintLaws
pub mod EntryLaws
pub mod StoreLaws
pub mod RefreshLaws
pub mod StoredLaws
pub mod KeyLaws
pub mod Examples
