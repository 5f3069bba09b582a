pub mod Marked
pub mod Nodes
pub mod Unused
