-- inner: what the parts of a solve answer.
pub mod Driving
pub mod Faults
pub mod Rounds
pub mod Seating
pub mod Works
