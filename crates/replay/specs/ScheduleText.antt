-- The text of a schedule, and which line of another text is refused.
use Rattle.std.specs.Prelude.{◌≡◌, ℕ, ◌+◌, ◌<◌, List, ◌++◌, take, map}
use Rattle.job_text.specs.Lines.{spaced, text_of, parts_of, IsEnded, HasLine}
use Rattle.replay.specs.declared.schedule.Schedule.{Schedule}
use Rattle.replay.specs.Schedules.{IsSchedule, schedule_lines}

-- the one text of a schedule
abbrev pub schedule_text : Schedule → List ℕ
schedule_text s = text_of (schedule_lines s)

-- A line, counted from 0, may stand where it is ended and the lines up to it are the first ones of
-- some schedule. So no line may stand that is one too many or too long.
pub record MayStand (text : List ℕ) (i : ℕ) : Type 0 where
  pub ended : IsEnded text i
  pub schedule : Schedule
  pub is_schedule : IsSchedule schedule
  pub behind : List (List ℕ)
  pub lines : map spaced (schedule_lines schedule) ≡ take (i + 1) (parts_of text) ++ behind

-- The first line that may not stand, counted from 1.
pub record IsFirstRefused (text : List ℕ) (line : ℕ) : Type 0 where
  pub place : ℕ
  pub counted : line ≡ place + 1
  pub there : HasLine text place
  pub refused : ¬ MayStand text place
  pub first_line : (i : ℕ) → i < place → MayStand text i
