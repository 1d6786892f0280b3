pub mod Answering
pub mod Naming
pub mod RunLaws
pub mod Telling
