pub mod Items
pub mod Placing
pub mod CutStates
pub mod StoppedStores
pub mod ClosedStores
pub mod Outliving
