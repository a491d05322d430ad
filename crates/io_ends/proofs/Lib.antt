pub mod BytesLemmas
pub mod MemSourceLemmas
