-- Words that only bodies and proofs need.
pub mod Moves
