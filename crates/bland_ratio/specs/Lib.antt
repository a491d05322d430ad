pub mod Leave
pub mod Pricing
pub mod Entries
pub mod Inner
