-- What a reply makes of the caches: document 01, "Storing", and source document 001.
pub mod entry_after_reply
pub mod domain_cache
