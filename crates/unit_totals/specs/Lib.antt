pub mod MapBooks
pub mod Naming
pub mod Transfers
pub mod Together
