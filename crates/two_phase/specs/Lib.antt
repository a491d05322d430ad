pub mod Board
pub mod Drafts
pub mod Inner
pub mod Modes
pub mod Spent
pub mod Standing
pub mod Tally
pub mod Works
