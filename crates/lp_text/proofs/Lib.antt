pub mod LinesLemmas
pub mod Pieces
pub mod SameBytes
mod WorkedCards
mod WorkedFreeCards
mod WorkedReports
