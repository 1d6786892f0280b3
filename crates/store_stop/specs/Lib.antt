pub mod Headline
pub mod ToldHistories
pub mod ClosedStores
