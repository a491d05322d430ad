pub mod Bases
pub mod Following
pub mod Solving
