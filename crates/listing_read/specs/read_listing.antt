-- What reading a listing answers.
pub mod Code
