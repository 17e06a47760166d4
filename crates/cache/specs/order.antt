-- Document 01, "The two caches": what they hold, and when they are in order.
pub mod Entries
pub mod Order
pub mod Memory
pub mod Code
