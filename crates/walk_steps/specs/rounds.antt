-- Rounds over parties.
pub mod Code
