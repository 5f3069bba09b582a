-- What the bodies and their proofs alone speak of.
pub mod Heights
pub mod Indices
pub mod Columns
pub mod Marks
pub mod Meetings
pub mod Sides
pub mod Gathered
pub mod Passes
pub mod News
