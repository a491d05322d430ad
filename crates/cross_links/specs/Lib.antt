pub mod Matrix
pub mod Sides
pub mod Cheap
pub mod Cells
pub mod Held
