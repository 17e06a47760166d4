-- A start whose path has been tested for its form.
pub mod Code
