pub mod Ranges
pub mod Listing
pub mod Causes
pub mod Text
pub mod Inner
