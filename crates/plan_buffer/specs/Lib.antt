pub mod File
pub mod Streams
pub mod Buffers
pub mod Accepted
pub mod Inner
