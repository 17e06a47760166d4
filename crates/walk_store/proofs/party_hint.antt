-- Laws.
pub mod HintLaws
pub mod PartyLaws
