pub mod Indices
pub mod Inner
