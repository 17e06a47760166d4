-- The request of a question.
pub mod Questions
pub mod Code
