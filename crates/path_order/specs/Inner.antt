pub mod Remaining
pub mod Squares
