pub mod Spelled
pub mod Asked
pub mod Whole
pub mod AllThings
