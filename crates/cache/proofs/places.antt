-- Laws of this crate.
pub mod LayoutLaws
pub mod ZeroLaws
pub mod WriterLaws
pub mod WrittenLaws
pub mod TidyLaws
pub mod PutLaws
