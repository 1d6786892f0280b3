pub mod Registering
