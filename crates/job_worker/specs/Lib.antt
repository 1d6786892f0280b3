pub mod Continuing
pub mod Asking
pub mod Ending
pub mod Worked
