pub mod Scanned
pub mod Workers
