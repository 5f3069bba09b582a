-- What bodies and proofs need alone.
pub mod Ends
