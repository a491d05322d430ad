pub mod Moving
pub mod OneLine
pub mod Taking
pub mod ListLines
pub mod Loops
pub mod PartLines
pub mod WholeReport
