pub mod Places
pub mod TenthLemmas
pub mod PartLemmas
pub mod SpellingLemmas
