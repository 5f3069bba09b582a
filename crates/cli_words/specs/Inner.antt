-- What bodies and proofs need of words alone.
pub mod Drafts
pub mod Seen
