pub mod Making
pub mod Solves
pub mod Updates
pub mod Spreading
