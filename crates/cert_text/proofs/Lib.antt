pub mod ValueLines
pub mod Written
