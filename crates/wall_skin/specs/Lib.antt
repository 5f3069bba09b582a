pub mod Sizes
pub mod Walls
pub mod Skin
