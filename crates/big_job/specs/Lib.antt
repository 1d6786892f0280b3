pub mod CallerWords
pub mod GeneratedLines
pub mod Generated
pub mod Digits
pub mod Totals
pub mod Summary
