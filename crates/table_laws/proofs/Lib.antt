pub mod Tableaus
pub mod Started
pub mod Stepped
pub mod Fitting
