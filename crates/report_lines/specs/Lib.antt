pub mod Numbers
pub mod Judged
pub mod FirstFlaw
pub mod Inner
