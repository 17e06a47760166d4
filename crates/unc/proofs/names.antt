-- Laws of names and paths.
pub mod NameLaws
pub mod UnitLaws
pub mod WithinLaws
pub mod PieceLaws
pub mod SpanLaws
pub mod MatchLaws
pub mod FormLaws
pub mod WholeLaws
pub mod Examples
