-- A schedule replayed from the fresh core, and the text of that.
use Rattle.std.specs.Prelude.{◌≡◌, ℕ, ◌+◌, List, [], ◌∷◌, ◌++◌, map, take, slice_get, slice_index, codes, decimal, Some}
use Rattle.std.specs.List.{flat_map, enumerate_from}
use Rattle.mont_base.specs.declared.constants.TheConstants.{FIRST_CLOCK}
use Rattle.mont_base.specs.declared.operation.Op.{Op}
use Rattle.mont_base.specs.declared.operation.Reply.{Reply}
use Rattle.mont_base.specs.declared.operation.Reply.TheVariants as replies
use Rattle.mont_base.specs.Layout.{Shape}
use Rattle.mont_base.specs.State.{State, Run, run_of}
use Rattle.mont_base.specs.History.{state_after, cut_at}
use Rattle.mont_base.specs.Image.{cut_of, empty_states, IsRecovered}
use Rattle.core_steps.specs.declared.event.Event.{Event}
use Rattle.core_steps.specs.declared.event.Event.TheVariants as events
use Rattle.core_steps.specs.declared.parts.Core.{Core}
use Rattle.core_steps.specs.declared.parts.UnitPart.{UnitPart}
use Rattle.core_steps.specs.declared.parts.UnitStage.{UnitStage}
use Rattle.core_steps.specs.declared.parts.UnitStage.TheVariants as stages
use Rattle.core_steps.specs.Clock.{clock, durable_clock}
use Rattle.core_steps.specs.Events.{OfUnit, IsAllowed, after}
use Rattle.core_steps.specs.CoreRuns.{after_all}
use Rattle.core_steps.specs.Fresh.{fresh}
use Rattle.core_steps.specs.Notes.{histories_of}
use Rattle.core_steps.specs.Sound.{Base, base_state}
use Rattle.mont_base.specs.declared.operation.Entry.{Entry}
use Rattle.job_text.specs.Lines.{text_of}
use Rattle.job_text.specs.ReportText.{contents_lines}
use Rattle.replay.specs.declared.schedule.Schedule.{Schedule}
use Rattle.replay.specs.Schedules.{Move, moves}

-- ---- the core that a schedule begins with
abbrev pub fresh_core : Schedule → Core
fresh_core s = fresh s.layout s.callers

-- a store that was never used
abbrev pub nothing : Shape → Base
nothing s = record { clock = FIRST_CLOCK; states = empty_states s }

-- the state to which the history of a unit leads
abbrev pub unit_state : Core → ℕ → UnitPart → State
unit_state c u p = state_after (base_state (nothing c.layout) u) p.history

-- the same of all units, by their histories
abbrev pub state_of_history : Shape → ℕ × List Entry → State
state_of_history s p = state_after (base_state (nothing s) p.0) p.1

abbrev pub unit_states : Core → List State
unit_states c = map (state_of_history c.layout) (enumerate_from 0 (histories_of c.units))

-- ---- which events are allowed
-- the run beside a number of pairs is what the range gives of the unit's state
abbrev pub IsRunOn : Core → ℕ → Op → Reply → Run → Type 0
IsRunOn c u op (replies.Pairs number) run =
    OfUnit c u (λ p. run_of (unit_state c u p) op ≡ Some run)
IsRunOn c u op _ run = Unit {0}

abbrev pub HasItsRun : Core → Event → Run → Type 0
HasItsRun c (events.Leave u k op reply) run = IsRunOn c u op reply run
HasItsRun c (events.Read u k op reply) run = IsRunOn c u op reply run
HasItsRun c _ run = Unit {0}

-- the core allows the event, and the run beside it is that of the unit's state
pub record MayMake (c : Core) (m : Move) : Type 0 where
  pub allowed : IsAllowed c m.0
  pub run : HasItsRun c m.0 m.1

-- each in its turn
abbrev pub MayMakeAll : Core → List Move → Type 0
MayMakeAll c [] = Unit {0}
MayMakeAll c (m ∷ ms) = MayMake c m × MayMakeAll (after c m.0) ms

abbrev pub IsAllAllowed : Schedule → Type 0
IsAllAllowed s = MayMakeAll (fresh_core s) (moves s)

-- ---- the text
abbrev pub stage_word : UnitStage → List ℕ
stage_word stages.Idle = codes "i"
stage_word (stages.Told epoch) = codes "t"
stage_word (stages.Within epoch) = codes "w"
stage_word (stages.Closing slot) = codes "c"

-- the announcement of a unit, which stands in the list of them, and its stage
abbrev pub unit_words : List ℕ → ℕ × UnitPart → List (List ℕ)
unit_words told p = decimal (slice_index told p.0) ∷ stage_word p.1.stage ∷ []

-- a number, both clocks, and what each unit shows
abbrev pub core_words : ℕ × Core → List (List ℕ)
core_words p =
    decimal p.0 ∷ decimal (clock p.1) ∷ decimal (durable_clock p.1)
    ∷ flat_map (unit_words p.1.told) (enumerate_from 0 p.1.units)

-- the cores that events reach one after another
abbrev pub reached : Core → List Event → List Core
reached c [] = []
reached c (e ∷ es) = after c e ∷ reached (after c e) es

abbrev pub last_core : Schedule → Core
last_core s = after_all (fresh_core s) s.events

-- of each unit the state of its history, cut two epochs before the clock of an image
abbrev pub cut_state : Core → List ℕ → ℕ × UnitPart → State
cut_state c image p =
    state_after (base_state (nothing c.layout) p.0) (cut_at (cut_of image) p.1.history)

abbrev pub cut_states : Core → List ℕ → List State
cut_states c image = map (cut_state c image) (enumerate_from 0 c.units)

-- the contents of one memory of a core
abbrev pub memory_lines : List ℕ → Core → List ℕ → List (List (List ℕ))
memory_lines name c image =
    (name ∷ []) ∷ contents_lines c.layout.kinds (cut_states c image)

abbrev pub end_lines : Core → List (List (List ℕ))
end_lines c =
    memory_lines (codes "durable") c c.dur ++ memory_lines (codes "current") c c.cur
    ++ ((codes "end" ∷ []) ∷ [])

abbrev pub replay_lines : Schedule → List (List (List ℕ))
replay_lines s =
    map core_words (enumerate_from 1 (reached (fresh_core s) s.events)) ++ end_lines (last_core s)

-- the one text of a replay
abbrev pub replay_text : Schedule → List ℕ
replay_text s = text_of (replay_lines s)

-- ---- answers
-- Every event is allowed, the bytes are the text, and both contents in it are what recovery
-- rebuilds of the words that the last core has in either memory.
pub record IsReplay (s : Schedule) (bytes : List ℕ) : Type 0 where
  pub allowed : IsAllAllowed s
  pub text : bytes ≡ replay_text s
  pub durable :
      IsRecovered s.layout (last_core s).dur (cut_states (last_core s) (last_core s).dur)
  pub current :
      IsRecovered s.layout (last_core s).cur (cut_states (last_core s) (last_core s).cur)

-- The first line whose event isn't allowed, counted from 1; the first event stands on line 2.
pub record IsFirstNotAllowed (s : Schedule) (line : ℕ) : Type 0 where
  pub place : ℕ
  pub counted : line ≡ place + 2
  pub move : Move
  pub there : slice_get (moves s) place ≡ Some move
  pub before : MayMakeAll (fresh_core s) (take place (moves s))
  pub not_allowed : ¬ MayMake (after_all (fresh_core s) (take place s.events)) move
