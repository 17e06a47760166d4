-- Writing an entry into its place.
pub mod Code
