pub mod Begun
pub mod Followed
