-- What the bodies and their proofs alone speak of.
pub mod Blocks
