pub mod CutLemmas
pub mod Runs
pub mod FaultLemmas
pub mod NearLemmas
pub mod Outcomes
