mod Kept
mod Listed
mod Placed
pub mod Prefixes
mod Ranged
