pub mod Opened
pub mod Gated
pub mod Passes
pub mod CarriedOut
pub mod Ended
pub mod Following
pub mod Resumed
pub mod WholeHistories
pub mod Marked
pub mod SeenPlaces
pub mod Lossless
pub mod CallersSynced
mod Summaries
