-- How the events of a schedule are spelled, and which of them may stand in one.
use Rattle.std.specs.Prelude.{◌≡◌, ◌≢◌, ℕ, ◌<◌, Bool, false, List, [], ◌∷◌, codes, decimal, None}
use Rattle.mont_base.specs.declared.operation.Op.{Op}
use Rattle.mont_base.specs.Layout.{Shape, units_of, total_of}
use Rattle.mont_base.specs.State.{Run, unit_of_op}
use Rattle.core_steps.specs.declared.event.Event.{Event}
use Rattle.core_steps.specs.declared.event.Event.TheVariants as events
use Rattle.core_steps.specs.declared.parts.Part.{Part}
use Rattle.core_steps.specs.declared.parts.Part.TheVariants as parts
use Rattle.job_text.specs.Operations.{IsNumber, IsOp}
use Rattle.job_text.specs.ReportText.{answer_words}
use Rattle.job_text.specs.ReportRanges.{IsReply, IsRunOf, is_of_key}
use Rattle.job_text.specs.Runs.{has_run}

-- ---- words
abbrev pub part_words : Part → List (List ℕ)
part_words (parts.Unit unit) = codes "unit" ∷ decimal unit ∷ []
part_words (parts.Caller caller) = codes "caller" ∷ decimal caller ∷ []
part_words parts.Advancer = []

-- the words of an event, with the run beside its reply; three kinds of event have none
abbrev pub event_words : Event → Run → List (List ℕ)
event_words (events.Look unit) run = codes "look" ∷ decimal unit ∷ []
event_words (events.Tell unit epoch) run = codes "tell" ∷ decimal unit ∷ decimal epoch ∷ []
event_words (events.Confirm unit) run = codes "confirm" ∷ decimal unit ∷ []
event_words (events.Store unit slot field value) run =
    codes "store" ∷ decimal unit ∷ decimal slot ∷ decimal field ∷ decimal value ∷ []
event_words (events.Leave unit caller op reply) run =
    codes "leave" ∷ decimal unit ∷ decimal caller ∷ answer_words op reply run
event_words (events.Read unit caller op reply) run =
    codes "read" ∷ decimal unit ∷ decimal caller ∷ answer_words op reply run
event_words (events.Withdraw unit) run = codes "withdraw" ∷ decimal unit ∷ []
event_words (events.Freeze unit caller) run =
    codes "freeze" ∷ decimal unit ∷ decimal caller ∷ []
event_words (events.LoadDurable part) run = codes "durable" ∷ part_words part
event_words (events.CloseLabel unit slot) run =
    codes "close" ∷ decimal unit ∷ decimal slot ∷ []
event_words (events.PersistClose unit) run = codes "persistclose" ∷ decimal unit ∷ []
event_words events.Check run = codes "check" ∷ []
event_words events.LoadWord run = codes "loadword" ∷ []
event_words events.PersistWord run = codes "persistword" ∷ []
event_words events.SetClock run = codes "setclock" ∷ []
event_words events.PersistClock run = codes "persistclock" ∷ []
event_words (events.Split part) run = []
event_words (events.Join part note) run = []
event_words (events.Exchange part) run = []

-- ---- numbers
-- The numbers of an event have 64 bits, its operation and its reply can be spelled. No advancer
-- loads the durable clock, and notes and lists aren't moved in a schedule.
abbrev pub IsPartName : Part → Type 0
IsPartName (parts.Unit unit) = IsNumber unit
IsPartName (parts.Caller caller) = IsNumber caller
IsPartName parts.Advancer = ⊥

abbrev pub IsNamed : Event → Type 0
IsNamed (events.Look unit) = IsNumber unit
IsNamed (events.Tell unit epoch) = IsNumber unit × IsNumber epoch
IsNamed (events.Confirm unit) = IsNumber unit
IsNamed (events.Store unit slot field value) =
    IsNumber unit × IsNumber slot × IsNumber field × IsNumber value
IsNamed (events.Leave unit caller op reply) =
    IsNumber unit × IsNumber caller × IsOp op × IsReply (is_of_key op) reply
IsNamed (events.Read unit caller op reply) =
    IsNumber unit × IsNumber caller × IsOp op × IsReply (is_of_key op) reply
IsNamed (events.Withdraw unit) = IsNumber unit
IsNamed (events.Freeze unit caller) = IsNumber unit × IsNumber caller
IsNamed (events.LoadDurable part) = IsPartName part
IsNamed (events.CloseLabel unit slot) = IsNumber unit × IsNumber slot
IsNamed (events.PersistClose unit) = IsNumber unit
IsNamed events.Check = Unit {0}
IsNamed events.LoadWord = Unit {0}
IsNamed events.PersistWord = Unit {0}
IsNamed events.SetClock = Unit {0}
IsNamed events.PersistClock = Unit {0}
IsNamed (events.Split part) = ⊥
IsNamed (events.Join part note) = ⊥
IsNamed (events.Exchange part) = ⊥

-- Units, slots and callers are those of the store, and an operation has a unit there: a map unit
-- for its key, or the one that it names, which is of its kind. Other numbers are any.
abbrev pub IsPartOf : Shape → ℕ → Part → Type 0
IsPartOf s callers (parts.Unit unit) = unit < units_of s
IsPartOf s callers (parts.Caller caller) = caller < callers
IsPartOf s callers parts.Advancer = ⊥

abbrev pub IsAnswerIn : Shape → ℕ → ℕ → ℕ → Op → Type 0
IsAnswerIn s callers unit caller op =
    (unit < units_of s) × (caller < callers) × (unit_of_op s op ≢ None)

abbrev pub IsEventIn : Shape → ℕ → Event → Type 0
IsEventIn s callers (events.Look unit) = unit < units_of s
IsEventIn s callers (events.Tell unit epoch) = unit < units_of s
IsEventIn s callers (events.Confirm unit) = unit < units_of s
IsEventIn s callers (events.Store unit slot field value) =
    (unit < units_of s) × (slot < total_of s)
IsEventIn s callers (events.Leave unit caller op reply) = IsAnswerIn s callers unit caller op
IsEventIn s callers (events.Read unit caller op reply) = IsAnswerIn s callers unit caller op
IsEventIn s callers (events.Withdraw unit) = unit < units_of s
IsEventIn s callers (events.Freeze unit caller) = (unit < units_of s) × (caller < callers)
IsEventIn s callers (events.LoadDurable part) = IsPartOf s callers part
IsEventIn s callers (events.CloseLabel unit slot) = (unit < units_of s) × (slot < total_of s)
IsEventIn s callers (events.PersistClose unit) = unit < units_of s
IsEventIn s callers _ = Unit {0}

-- ---- runs
-- the reply of an event is a number of pairs, which stand beside it
abbrev pub has_pairs : Event → Bool
has_pairs (events.Leave unit caller op reply) = has_run reply
has_pairs (events.Read unit caller op reply) = has_run reply
has_pairs _ = false

-- the run beside an event's reply; no other event has a run
abbrev pub IsRunBeside : Event → Run → Type 0
IsRunBeside (events.Leave unit caller op reply) run = IsRunOf reply run
IsRunBeside (events.Read unit caller op reply) run = IsRunOf reply run
IsRunBeside _ run = run ≡ []
