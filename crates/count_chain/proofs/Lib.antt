pub mod ChainsOf
pub mod Copies
