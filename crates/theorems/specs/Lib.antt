-- What is claimed of whole calls and of the program: definitions (specs/) and theorems (proofs/). It has no function.
pub mod keeps
pub mod limit
pub mod examples
pub mod one_outcome
pub mod read_back
