pub mod Among
pub mod Pieces
pub mod Ranges
