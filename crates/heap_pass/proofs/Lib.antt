pub mod Cleanness
pub mod Kept
pub mod KeptReceipts
