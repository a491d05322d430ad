mod Splitting
mod Values
pub mod Plain
mod SwapLines
