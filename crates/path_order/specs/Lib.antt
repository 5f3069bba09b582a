pub mod Starts
pub mod Order
pub mod Inner
