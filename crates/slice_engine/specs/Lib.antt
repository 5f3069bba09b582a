pub mod Jobs
pub mod Reads
pub mod Files
pub mod Totals
pub mod Done
pub mod Journals
pub mod Answers
pub mod Inner
