-- Laws of DC and domain replies.
pub mod ListLaws
pub mod SaysLaws
