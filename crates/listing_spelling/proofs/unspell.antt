-- Laws of what spelled texts say.
pub mod HexLaws
pub mod UnspelledLaws
pub mod NumberLaws
