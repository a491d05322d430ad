pub mod Sums
pub mod Items
pub mod Walk
pub mod Judged
pub mod Proved
pub mod Inner
