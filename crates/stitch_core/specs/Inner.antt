pub mod Slots
pub mod Nearest
