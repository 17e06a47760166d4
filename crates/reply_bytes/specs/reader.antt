-- What a thin reader gives of a reply: the header and the fixed part of an entry.
pub mod Code
