pub mod Pairs
pub mod PairBeginning
pub mod PairEnding
