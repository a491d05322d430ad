-- What proofs alone need.
pub mod Lines
pub mod Reads
pub mod Told
