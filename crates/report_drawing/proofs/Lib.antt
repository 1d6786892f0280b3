pub mod Lists
pub mod Stacks
pub mod Epochs
pub mod Rows
pub mod Folds
pub mod Held
