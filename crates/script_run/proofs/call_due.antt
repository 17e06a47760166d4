-- Laws of the calls of the program `walk`.
pub mod CallingLaws
