pub mod FoundTicket
pub mod Recovery
pub mod StoppedImages
pub mod StoppedWords
