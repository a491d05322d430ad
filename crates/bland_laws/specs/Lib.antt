pub mod Kept
pub mod OutcomeProves
pub mod Alternatives
pub mod Ends
pub mod Unique
