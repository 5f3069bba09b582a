pub mod Words
pub mod Lines
pub mod Mesh
pub mod Inner
