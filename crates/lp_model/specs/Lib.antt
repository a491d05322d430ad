pub mod Deck
pub mod Certificate
pub mod Basis
pub mod Outcome
pub mod Log
pub mod Edit
