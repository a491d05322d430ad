mod WorkedNumbers
mod WorkedDecks
mod WorkedSections
mod WorkedFree
pub mod ReadingLemmas
