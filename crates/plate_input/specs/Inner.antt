-- What bodies and proofs need alone.
pub mod Gathering
pub mod Stages
