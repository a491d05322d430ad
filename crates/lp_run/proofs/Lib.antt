pub mod Regularity
pub mod Pivot
pub mod Unique
pub mod Start
pub mod Kept
pub mod Runs
pub mod Tables
pub mod WellFormed
pub mod FirstUnfit
pub mod StartStatuses
mod Computed
mod WorkedDecks
