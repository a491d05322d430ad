pub mod SpellingLemmas
pub mod CuttingLemmas
