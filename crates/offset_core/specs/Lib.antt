pub mod Normals
pub mod Corners
pub mod Offset
pub mod Inner
