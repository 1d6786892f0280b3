pub mod Views
pub mod TableWords
pub mod HomeLists
pub mod Rule
pub mod SoundUnits
pub mod SeenEntries
pub mod OpeningWords
pub mod Plays
