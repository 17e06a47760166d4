-- Document 01, "The two caches": finding an entry, its age, the place of a new one.
pub mod Lookup
pub mod Code
