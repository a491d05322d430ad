pub mod Pairs
pub mod Repeats
pub mod Rows
