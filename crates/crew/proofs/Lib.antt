pub mod Complete
pub mod Rounds
pub mod Calms
pub mod CalmRounds
pub mod Looping
