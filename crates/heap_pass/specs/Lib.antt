pub mod NoHeap
pub mod OfLayout
pub mod OfHeap
pub mod Spare
pub mod Kept
pub mod KeptReceipt
