pub mod Texts
pub mod Outlines
