-- Lent memory as places of one layout.
pub mod Layout
pub mod Code
