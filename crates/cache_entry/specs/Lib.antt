-- A reply and one entry: document 01, "Storing", and source document 001.
pub mod equivalent_targets
pub mod write_entry
