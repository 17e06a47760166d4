-- Laws.
pub mod UnitLaws
