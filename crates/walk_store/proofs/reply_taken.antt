-- Laws.
pub mod PlaceLaws
pub mod SaidLaws
pub mod TakenLaws
