pub mod Outlived
