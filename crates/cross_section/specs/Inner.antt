-- Words that only bodies and proofs need.
pub mod Filing
pub mod Shelves
pub mod Tops
