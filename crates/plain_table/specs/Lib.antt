pub mod Inner
pub mod Plain
pub mod Answers
pub mod Next
