-- Laws of writing an entry into its place.
pub mod WritingLaws
pub mod PieceLaws
