pub mod Bank
pub mod Shifts
pub mod BankText
