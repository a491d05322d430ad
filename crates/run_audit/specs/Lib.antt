pub mod Judged
pub mod Works
pub mod Answers
pub mod Inner
