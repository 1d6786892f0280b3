pub mod Trouble
pub mod Form
