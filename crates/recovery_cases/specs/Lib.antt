pub mod FoundTexts
pub mod Leftovers
pub mod CaseReadings
