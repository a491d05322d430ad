pub mod Added
pub mod Count
pub mod Inserted
pub mod Lists
pub mod Lookups
pub mod Seen
pub mod Sound
pub mod Sparse
