pub mod Sums
pub mod Senses
pub mod WeakDuality
pub mod FarkasGap
pub mod AlongRays
pub mod OtherRights
