-- Laws of this crate.
pub mod StoreLaws
pub mod FindLaws
pub mod EndLaws
pub mod AgeLaws
pub mod EntryLaws
pub mod LookupLaws
pub mod KeyLaws
pub mod Examples
