pub mod Fault
pub mod Sparse
pub mod Work
