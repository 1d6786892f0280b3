pub mod Ends
pub mod BankStore
pub mod BankRun
pub mod MadeShifts
pub mod OpenedAccounts
pub mod BankCallers
pub mod Tellers
pub mod BankEnd
