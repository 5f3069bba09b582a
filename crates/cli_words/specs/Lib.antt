pub mod Choices
pub mod Command
pub mod Faults
pub mod Inner
