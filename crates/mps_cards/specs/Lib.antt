pub mod ReaderState
pub mod NextLine
pub mod Splitting
pub mod Inner
