pub mod Working
pub mod Permits
