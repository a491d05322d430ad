pub mod Kept
pub mod Spread
