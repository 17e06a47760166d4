-- What is printed after a call that was taken.
pub mod TakenLaws
