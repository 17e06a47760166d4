-- Document 01, "Examples to hold it to": what the program `walk` prints.
pub mod Printed
