pub mod Corners
pub mod Extents
pub mod Outsides
pub mod Shifts
