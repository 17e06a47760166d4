-- What a host does to its caches beside walks.
pub mod Calls
pub mod Keeps
pub mod Code
