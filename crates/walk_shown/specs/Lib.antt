-- What a host is shown of a walk.
pub mod question
