-- inner: what the parts of an audit answer.
pub mod Parts
