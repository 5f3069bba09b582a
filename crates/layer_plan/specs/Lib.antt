pub mod Pieces
pub mod Groups
pub mod Drawing
pub mod Plan
pub mod Inner
