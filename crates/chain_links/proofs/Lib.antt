pub mod Paths
pub mod Rings
pub mod Rest
