pub mod Faults
pub mod Sizes
pub mod Boxes
pub mod Middles
pub mod Splits
