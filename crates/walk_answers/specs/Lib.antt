-- The answers to the questions of a walk.
pub mod referral_answer
pub mod io_answer
