pub mod Answering
pub mod Judging
pub mod Newest
pub mod Unfinished
