-- What the contracts of inner calls cite.
pub mod Uses
pub mod Refusals
pub mod Laid
pub mod Standing
pub mod Placed
pub mod Reached
