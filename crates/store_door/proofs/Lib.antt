pub mod DoneStores
