-- Names, components and paths: document 01, "Paths".
pub mod names
