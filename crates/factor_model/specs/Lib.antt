pub mod Eta
pub mod Vectors
pub mod Upper
pub mod Represents
pub mod Edits
pub mod Update
pub mod Factors
pub mod Factoring
