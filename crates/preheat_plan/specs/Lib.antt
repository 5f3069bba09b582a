pub mod Past
pub mod Preheats
pub mod Completed
pub mod Held
pub mod Follows
pub mod Switches
pub mod Inner
