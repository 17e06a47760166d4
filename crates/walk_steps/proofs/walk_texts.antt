-- Laws of a walk's texts.
pub mod TextLaws
