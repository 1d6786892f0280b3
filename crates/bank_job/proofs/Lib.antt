pub mod Accounts
mod Made
