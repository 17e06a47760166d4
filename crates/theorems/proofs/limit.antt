-- Demand 3, proved.
pub mod Goes
pub mod Once
pub mod Classify
pub mod CallLaws
pub mod NoLimit
pub mod Along
pub mod Cores
pub mod Ways
pub mod ListLaws
pub mod ExportedLaws
pub mod Theorem
