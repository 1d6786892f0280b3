pub mod Telling
pub mod Syncing
pub mod Continued
