-- Document 01's examples marked P, proved.
pub mod Round
pub mod Table
pub mod Unused
