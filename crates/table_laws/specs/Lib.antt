pub mod Stands
pub mod Fitted
