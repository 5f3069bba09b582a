pub mod Plates
pub mod Feeding
pub mod Ringing
pub mod Slicing
pub mod Answered
