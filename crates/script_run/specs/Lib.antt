-- The program `walk` between its input and its output.
pub mod call_due
pub mod stream
