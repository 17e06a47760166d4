-- A listing read into a referral cache: document 01, "The listing".
pub mod listing_rules
