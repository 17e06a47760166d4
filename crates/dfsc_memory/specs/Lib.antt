-- The calls of hosts in other languages.
pub mod Units
pub mod Listing
pub mod Version
pub mod Code
