pub mod Counts
mod Parts
