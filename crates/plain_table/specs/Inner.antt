-- inner: what the parts of a step list and make.
pub mod Costs
pub mod Eliminations
pub mod Lines
pub mod Makings
pub mod Pivots
pub mod Rows
pub mod Starts
pub mod Steps
pub mod Tables
pub mod Values
pub mod Next
