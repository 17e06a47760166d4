-- Laws of the test of a listing.
pub mod TextLaws
pub mod StepLaws
pub mod SpelledLaws
pub mod EntryLaws
pub mod ListingLaws
