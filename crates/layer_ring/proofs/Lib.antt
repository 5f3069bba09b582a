pub mod Moves
pub mod Giving
pub mod Faults
pub mod AllEnded
pub mod Seating
