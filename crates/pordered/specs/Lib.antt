pub mod OrderedRuns
