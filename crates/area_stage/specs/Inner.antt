pub mod Held
pub mod Faults
pub mod Walls
pub mod Columns
pub mod Layers
pub mod Counts
pub mod Taking
