pub mod Stage
pub mod Advance
pub mod Attempts
