-- Laws of what is printed.
pub mod PieceLaws
pub mod PrintedLaws
pub mod ByteLaws
