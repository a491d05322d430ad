pub mod AheadLemmas
pub mod PieceLemmas
pub mod GatheringLemmas
pub mod ColumnLemmas
pub mod SplittingLemmas
pub mod WordLemmas
