pub mod CaseOutcomes
pub mod Judged
