pub mod PairBegins
pub mod PairEnds
