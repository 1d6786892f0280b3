pub mod Firsts
pub mod TextBytes
pub mod Judging
