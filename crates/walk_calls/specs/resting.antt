-- Where a walk of any content rests.
pub mod Code
