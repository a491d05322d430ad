pub mod Bases
pub mod Refusals
pub mod Works
