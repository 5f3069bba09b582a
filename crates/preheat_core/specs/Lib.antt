pub mod Need
pub mod Spots
pub mod Times
pub mod Places
pub mod Inner
