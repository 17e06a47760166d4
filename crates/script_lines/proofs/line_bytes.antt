-- Laws of hex digits, and of the line that is held.
pub mod HexLaws
pub mod HeldLaws
pub mod WholeLaws
