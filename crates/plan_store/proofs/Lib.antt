pub mod Timed
pub mod Sound
