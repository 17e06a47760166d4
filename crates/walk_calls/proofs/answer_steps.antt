-- Laws.
pub mod TurnLaws
pub mod DueLaws
