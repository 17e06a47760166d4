-- Laws of this crate.
pub mod MemoryLaws
pub mod KindLaws
pub mod PlaceLaws
pub mod TestLaws
