pub mod Acceptable
pub mod Built
pub mod Callers
pub mod Continues
pub mod GraphCode
pub mod Ranges
pub mod States
pub mod Changes
