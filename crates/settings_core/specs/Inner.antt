-- Words that only bodies and proofs need.
pub mod Contents
pub mod Kinds
