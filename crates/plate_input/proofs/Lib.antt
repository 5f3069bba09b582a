pub mod Readings
pub mod Placings
pub mod Rows
pub mod Gathers
pub mod Stages
pub mod Told
pub mod Once
