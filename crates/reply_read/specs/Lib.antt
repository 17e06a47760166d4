-- Referral requests and replies: document 01, "Layouts".
pub mod referral
pub mod name_lists
