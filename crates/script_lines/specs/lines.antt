-- The input of `walk`: document 01, "Examples to hold it to".
pub mod Script
