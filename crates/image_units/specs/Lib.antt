pub mod FaultWords
pub mod FirstRefusal
pub mod Found
pub mod Refusals
pub mod UnitSlots
pub mod FoundVersions
