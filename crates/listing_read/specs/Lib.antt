-- A listing read into a referral cache: document 01, "The listing".
pub mod line
pub mod listing_rules
pub mod check_listing
pub mod fill_cache
pub mod read_listing
