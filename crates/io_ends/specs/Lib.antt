pub mod Adapted
pub mod Bytes
pub mod Count
pub mod MemSink
pub mod MemSource
