pub mod AskableOps
pub mod StoppedRuns
