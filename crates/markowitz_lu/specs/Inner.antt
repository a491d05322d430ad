-- inner: what only the crate's own functions cite
pub mod Links
pub mod Lines
pub mod Stops
pub mod Active
pub mod Kept
