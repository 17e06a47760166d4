-- What the probe of the readers hands to programs that link it.
pub mod Code
