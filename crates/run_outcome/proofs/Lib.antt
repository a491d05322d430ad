pub mod Closings
pub mod Shown
pub mod Totals
