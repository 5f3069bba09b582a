pub mod Extents
pub mod Places
pub mod Volume
pub mod Inner
