-- Laws of reading a listing.
pub mod ReadLaws
