pub mod Buckets
pub mod Entries
pub mod Tables
pub mod Firsts
pub mod Search
pub mod Loads
pub mod Cheaps
pub mod Cells
