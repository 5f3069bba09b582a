pub mod Values
pub mod Reading
pub mod Meshes
pub mod Plate
pub mod Reads
pub mod Refusals
pub mod Inner
