pub mod BuiltLaws
pub mod Bases
pub mod Building
pub mod Starting
pub mod Calmness
pub mod Causing
