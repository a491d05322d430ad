pub mod Columns
pub mod Fault
pub mod Inner
