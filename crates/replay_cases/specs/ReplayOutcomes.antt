-- What an outcome says of a text.
use Rattle.std.specs.Prelude.{◌≡◌, ℕ, List}
use Rattle.replay.specs.declared.schedule.Schedule.{Schedule}
use Rattle.replay.specs.Schedules.{IsSchedule}
use Rattle.replay.specs.ScheduleText.{schedule_text, IsFirstRefused}
use Rattle.replay.specs.Replays.{IsReplay, IsFirstNotAllowed}
use Rattle.replay_cases.specs.declared.replay_outcome.ReplayOutcome.{ReplayOutcome}
use Rattle.replay_cases.specs.declared.replay_outcome.ReplayOutcome.TheVariants.{Replayed, Refused, NotAllowed, Failed}

-- the schedule that a text spells, with what is said of it
abbrev pub OfSchedule : List ℕ → (Schedule → Type 0) → Type 0
OfSchedule text P = (s : Schedule) × IsSchedule s × (text ≡ schedule_text s) × P s

abbrev pub IsOutcome : List ℕ → ReplayOutcome → Type 0
IsOutcome text (Replayed bytes) = OfSchedule text (λ s. IsReplay s bytes.items)
IsOutcome text (Refused line) = IsFirstRefused text line
IsOutcome text (NotAllowed line) = OfSchedule text (λ s. IsFirstNotAllowed s line)
IsOutcome text Failed = Unit {0}
