pub mod Hearing
pub mod Stepping
