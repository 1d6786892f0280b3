pub mod Gates
pub mod Fronts
pub mod Later
pub mod Calls
pub mod Waits
pub mod Lines
