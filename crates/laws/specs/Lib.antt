-- Words that contracts of several crates use.
pub mod Choice
pub mod Lists
pub mod Listed
