-- A reply taken into the caches, the steps that follow, and both caches put back where the request that then waits does not fit the buffer.
pub mod party_hint
pub mod reply_taken
pub mod after_reply
