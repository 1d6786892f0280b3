pub mod Staging
pub mod Passing
pub mod Ways
pub mod Attempted
