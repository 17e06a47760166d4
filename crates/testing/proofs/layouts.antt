-- Laws of the numbers handed out.
pub mod WireLaws
