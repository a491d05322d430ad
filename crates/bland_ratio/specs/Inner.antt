-- inner: what the helpers of the calls answer.
pub mod Limits
