-- inner: what the parts of the ranges answer.
pub mod Limits
pub mod Found
pub mod Lines
pub mod Solves
