pub mod Blocks
pub mod Indices
