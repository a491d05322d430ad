pub mod Layout
pub mod Makes
pub mod Transport
pub mod Writes
