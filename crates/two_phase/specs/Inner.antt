-- inner: what the parts of a board answer.
pub mod Decisions
pub mod Fallbacks
pub mod Grounds
pub mod Iterates
pub mod Plains
pub mod Reaching
pub mod Recording
pub mod Works
