pub mod AskedTimes
pub mod Asking
pub mod JoinedLists
pub mod Standing
pub mod Stays
