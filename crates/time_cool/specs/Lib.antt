pub mod Times
pub mod Cooling
pub mod Fans
pub mod Inner
