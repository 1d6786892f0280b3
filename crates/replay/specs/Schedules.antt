-- The schedules that there are.
use Rattle.std.specs.Prelude.{◌≡◌, ℕ, ◌+◌, ◌≤◌, List, [], ◌∷◌, length, map, filter, codes, decimal, All}
use Rattle.mont_base.specs.Layout.{Shape, IsLayout, letters_of}
use Rattle.mont_base.specs.State.{Run}
use Rattle.core_steps.specs.declared.event.Event.{Event}
use Rattle.job_text.specs.declared.limits.TheConstants.{MOST_CALLERS}
use Rattle.job_text.specs.Lines.{spaced}
use Rattle.job_text.specs.Runs.{first_run, runs_behind}
use Rattle.replay.specs.declared.schedule.Schedule.{Schedule}
use Rattle.replay.specs.declared.schedule_limits.TheConstants.{SCHEDULE_LINES, SCHEDULE_LINE_BYTES}
use Rattle.replay.specs.EventWords.{event_words, IsNamed, IsEventIn, has_pairs, IsRunBeside}

-- an event with the run beside its reply, which is empty where its reply has none
abbrev pub Move : Type 0
Move = Event × Run

-- the events with their runs
abbrev pub moves_of : List Event → List Run → List Move
moves_of [] runs = []
moves_of (e ∷ es) runs =
    (e, first_run (has_pairs e) runs) ∷ moves_of es (runs_behind (has_pairs e) runs)

abbrev pub moves : Schedule → List Move
moves s = moves_of s.events s.runs

-- there is a run for each event whose reply is a number of pairs
abbrev pub HasRuns : List Event → List Run → Type 0
HasRuns es runs = length runs ≡ length (filter has_pairs es)

-- an event of a store of this layout with so many callers, and its run
pub record IsMove (s : Shape) (callers : ℕ) (m : Move) : Type 0 where
  pub named : IsNamed m.0
  pub within : IsEventIn s callers m.0
  pub run : IsRunBeside m.0 m.1

-- ---- lines
abbrev pub title_words : Shape → ℕ → List (List ℕ)
title_words s callers =
    codes "montage-schedule" ∷ codes "1"
    ∷ letters_of s.kinds ∷ decimal s.slots ∷ decimal callers ∷ []

-- the words after the first two
abbrev pub title_tail : Shape → ℕ → List (List ℕ)
title_tail s callers = letters_of s.kinds ∷ decimal s.slots ∷ decimal callers ∷ []

abbrev pub IsTitle : Shape → ℕ → Type 0
IsTitle s callers = IsLayout s × (1 ≤ callers) × (callers ≤ MOST_CALLERS)

abbrev pub move_words : Move → List (List ℕ)
move_words m = event_words m.0 m.1

abbrev pub schedule_lines : Schedule → List (List (List ℕ))
schedule_lines s = title_words s.layout s.callers ∷ map move_words (moves s)

abbrev pub IsShort : List (List ℕ) → Type 0
IsShort line = length (spaced line) ≤ SCHEDULE_LINE_BYTES

-- all schedules: no more lines than a text has, and none of them too long
pub record IsSchedule (s : Schedule) : Type 0 where
  pub layout : IsLayout s.layout
  pub some_callers : 1 ≤ s.callers
  pub few_callers : s.callers ≤ MOST_CALLERS
  pub runs : HasRuns s.events s.runs
  pub moves : All (IsMove s.layout s.callers) (moves_of s.events s.runs)
  pub few_lines : length s.events + 1 ≤ SCHEDULE_LINES
  pub short_lines : All IsShort (schedule_lines s)
