pub mod Basis
pub mod Entries
pub mod Inner
pub mod Making
pub mod Parts
