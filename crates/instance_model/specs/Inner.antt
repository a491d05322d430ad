-- inner: what the parts of the making work and list.
pub mod Starts
