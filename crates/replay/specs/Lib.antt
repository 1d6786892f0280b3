pub mod StepNames
pub mod EventWords
pub mod Schedules
pub mod ScheduleText
pub mod SchedulesRead
pub mod Replays
pub mod NewestBeside
