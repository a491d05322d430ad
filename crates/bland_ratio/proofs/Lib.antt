pub mod Works
pub mod Least
pub mod Ratios
pub mod Priced
pub mod Stopping
pub mod Exact
pub mod Counting
