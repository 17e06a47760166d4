-- Laws of this crate.
pub mod RoomLaws
pub mod FormLaws
pub mod TestLaws
