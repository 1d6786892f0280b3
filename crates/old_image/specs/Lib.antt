pub mod OldSlots
pub mod OldStructure
pub mod Migration
pub mod OldRecords
pub mod Renewal
