pub mod Built
pub mod Calm
pub mod Causes
pub mod Bound
