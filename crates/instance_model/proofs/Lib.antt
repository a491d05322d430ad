pub mod Lists
pub mod Made
pub mod Products
pub mod Sums
pub mod Starts
pub mod Whole
