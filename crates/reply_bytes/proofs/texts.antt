-- Laws of units and texts in bytes.
pub mod UnitLaws
