-- inner: what the parts of an outcome answer.
pub mod Parts
