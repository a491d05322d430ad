pub mod Code
pub mod End
pub mod Named
pub mod Outcome
pub mod Parts
