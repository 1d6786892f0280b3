pub mod Halts
pub mod Room
pub mod Begins
pub mod Committed
