pub mod FoundRecords
pub mod Permitted
pub mod EngineEnds
pub mod Calls
