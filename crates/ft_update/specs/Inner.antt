-- inner: what only the crate's own functions cite
pub mod Rows
pub mod Flagged
