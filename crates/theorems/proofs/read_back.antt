-- Reading and printing are inverse.
pub mod InverseLaws
