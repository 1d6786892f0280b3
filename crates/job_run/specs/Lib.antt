pub mod Run
pub mod Desks
