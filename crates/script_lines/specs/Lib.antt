-- A line of the input of the program `walk`: document 01, "Examples to hold it to".
pub mod line_bytes
pub mod lines
