-- Reading a listing into a cache.
pub mod Code
