mod FirstSeats
mod BoxesGiven
pub mod StoreBases
pub mod NumbersAtEnd
mod CallsContinued
mod CallsShown
mod UnitStands
pub mod Ticks
mod SeatsTaken
mod KeptBases
pub mod UnitOps
pub mod Passed
mod AskedKeys
mod RangesHanded
mod StructuresOpened
mod Resumed
mod ShiftNotes
mod ShiftTold
mod ShiftStands
