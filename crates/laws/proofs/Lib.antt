-- Laws that several crates cite.
pub mod Choices
pub mod Orders
pub mod Pasting
pub mod Filling
pub mod Every
pub mod Tests
pub mod Listed
pub mod Parts
pub mod Maps
