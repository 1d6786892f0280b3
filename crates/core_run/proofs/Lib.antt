pub mod AllowedSteps
pub mod FlushPlaces
pub mod NotesFit
