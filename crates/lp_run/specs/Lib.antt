pub mod Instance
pub mod State
pub mod Solution
pub mod Step
pub mod Run
pub mod Ends
pub mod Listing
pub mod Tableau
