pub mod Constants
pub mod Count
pub mod Exact
pub mod Floor
pub mod Parts
pub mod Product
pub mod Settles
