pub mod Judgements
pub mod Along
pub mod Ending
pub mod Answering
