pub mod Walk
pub mod Steps
pub mod Clearing
pub mod Exchanging
pub mod Flagging
