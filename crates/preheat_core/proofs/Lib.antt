pub mod Halves
pub mod Added
pub mod Rows
