-- What the program `walk` prints: document 01, "Examples to hold it to".
pub mod printed
pub mod outcome
