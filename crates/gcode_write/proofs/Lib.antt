pub mod Points
pub mod Sizes
pub mod Walks
pub mod Closing
pub mod Plates
