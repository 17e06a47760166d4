-- Laws.
pub mod MoveLaws
pub mod CaseLaws
pub mod PointLaws
