pub mod AskedSteps
pub mod Flush
