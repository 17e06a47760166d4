-- Texts and numbers as a listing spells them: document 01, "The listing".
pub mod spell
pub mod unspell
