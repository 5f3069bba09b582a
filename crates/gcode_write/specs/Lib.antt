pub mod Filament
pub mod Paths
pub mod Layers
pub mod Ends
pub mod Writing
