-- What proofs alone need.
pub mod LineText
