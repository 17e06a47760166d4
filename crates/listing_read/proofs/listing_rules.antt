-- Laws of reading a listing.
pub mod LineLaws
pub mod SaidLaws
pub mod Theorems
