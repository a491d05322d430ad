pub mod Card
pub mod Inner
