pub mod Angles
pub mod Crossings
pub mod Fill
pub mod Inner
