pub mod FoundRuns
pub mod Reported
