pub mod Gates
pub mod Passes
pub mod Lending
