pub mod Regions
pub mod Guarding
pub mod Answered
