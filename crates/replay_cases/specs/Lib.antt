pub mod ReplayOutcomes
