-- What the bodies and their proofs alone speak of.
pub mod Found
pub mod Small
pub mod Rays
pub mod Indexed
pub mod Slopes
pub mod Members
pub mod Raises
pub mod Starts
pub mod Spots
