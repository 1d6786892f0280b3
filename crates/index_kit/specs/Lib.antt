pub mod Index
pub mod SortedIndex
pub mod Ring
pub mod Home
pub mod Cells
pub mod Table
pub mod ProbeIndex
