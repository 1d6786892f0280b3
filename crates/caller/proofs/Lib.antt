pub mod FreshSeats
pub mod TakenNotes
pub mod Waits
