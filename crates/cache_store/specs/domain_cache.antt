-- Document 01: DC and domain replies into the domain cache.
pub mod Domains
pub mod Code
