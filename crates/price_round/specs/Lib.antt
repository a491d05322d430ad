pub mod Rounds
pub mod Seats
pub mod Laws
pub mod Inner
pub mod Surveyed
