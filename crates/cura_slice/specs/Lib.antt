pub mod Help
pub mod Listing
pub mod Telling
pub mod Words
pub mod Running
