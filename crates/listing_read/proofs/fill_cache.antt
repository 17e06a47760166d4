-- Laws of reading a listing into a cache.
pub mod LineLaws
pub mod PutLaws
pub mod EntryLaws
pub mod FillLaws
