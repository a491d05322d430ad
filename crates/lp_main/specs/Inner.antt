-- inner: what the parts of a solve, of a check, of an audit, of ranging, and of writing a deck, answer.
pub mod Solving
pub mod Checking
pub mod Laying
pub mod Auditing
pub mod Ranging
