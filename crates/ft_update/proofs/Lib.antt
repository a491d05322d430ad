pub mod Steps
pub mod Stored
pub mod Reduced
pub mod Updated
pub mod Flagging
