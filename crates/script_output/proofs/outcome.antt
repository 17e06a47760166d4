-- Laws of what is printed after a call.
pub mod TellingLaws
pub mod PartyLaws
pub mod OneLaws
pub mod ByteLaws
