-- What the word at a place is to be, and why a word isn't.
use Rattle.std.specs.Prelude.{◌≡◌, ◌≢◌, ℕ, ◌<◌, ◌≤◌, ◌^◌, Bool, true, false, List, length, decimal, Option, Some, None}
use Rattle.mont_base.specs.declared.constants.TheConstants.{LEAST_SLOTS, MOST_SLOTS, MOST_PAIRS}
use Rattle.mont_base.specs.declared.kinds.UnitKind.{UnitKind}
use Rattle.mont_base.specs.Layout.{Shape, units_of, total_of, kind_of, map_units}
use Rattle.refusal_help.specs.declared.limits.TheConstants.{MOST_CALLERS, MOST_STEPS, MOST_WORKERS}
use Rattle.refusal_help.specs.declared.given.Given.{Given}
use Rattle.refusal_help.specs.declared.wanted.Wanted.{Wanted}
use Rattle.refusal_help.specs.declared.wanted.Wanted.TheVariants as wants
use Rattle.refusal_help.specs.declared.wanted.Figure.{Figure}
use Rattle.refusal_help.specs.declared.wanted.Figure.TheVariants as figures
use Rattle.refusal_help.specs.declared.cause.Range.{Range}
use Rattle.refusal_help.specs.declared.cause.Range.TheVariants as ranges
use Rattle.refusal_help.specs.declared.cause.WordFault.{WordFault}
use Rattle.refusal_help.specs.declared.cause.WordFault.TheVariants as faults
use Rattle.refusal_help.specs.declared.operation.Operation.{Operation}
use Rattle.refusal_help.specs.declared.operation.Operation.TheVariants as operations
use Rattle.refusal_help.specs.declared.event.Event.{Event}
use Rattle.refusal_help.specs.declared.form.Form.{Form}
use Rattle.refusal_help.specs.declared.part.Part.{Part}
use Rattle.refusal_help.specs.declared.reply.Reply.{Reply}
use Rattle.refusal_help.specs.Table.{fixed_word, operation_word, event_word, form_word, part_word, reply_word}
use Rattle.refusal_help.specs.Numbers.{IsNumberFault}
use Rattle.refusal_help.specs.TextWords.{IsTextWord, IsTextFault}
use Rattle.refusal_help.specs.LayoutWords.{AreKinds, IsKindsFault, IsMask, IsMaskFault}

-- ---- what the lines before gave
abbrev pub nothing_given : Given
nothing_given = record { layout = None; callers = 0; gate = Some 0 }

abbrev pub units_given : Option Shape → ℕ
units_given None = 0
units_given (Some s) = units_of s

abbrev pub slots_given : Option Shape → ℕ
slots_given None = 0
slots_given (Some s) = total_of s

abbrev pub maps_given : Option Shape → ℕ
maps_given None = 0
maps_given (Some s) = length (map_units s)

abbrev pub kind_given : Option Shape → ℕ → Option UnitKind
kind_given None unit = None
kind_given (Some s) unit = kind_of s unit

-- ---- the numbers that a place takes
abbrev pub gate_given : Option ℕ → ℕ
gate_given None = 0
gate_given (Some gate) = gate

abbrev pub range_of : Given → Figure → Range
range_of g figures.Slots = ranges.Within LEAST_SLOTS MOST_SLOTS
range_of g figures.Callers = ranges.Within 1 MOST_CALLERS
range_of g figures.Attempts = ranges.Within 0 MOST_STEPS
range_of g figures.Steps = ranges.Within 0 MOST_STEPS
range_of g figures.Gate = ranges.Within (gate_given g.gate) g.callers
range_of g figures.Caller = ranges.Below g.callers
range_of g figures.Unit = ranges.Below (units_given g.layout)
range_of g figures.Slot = ranges.Below (slots_given g.layout)
range_of g figures.Most = ranges.Within 1 MOST_PAIRS
range_of g figures.Pairs = ranges.Within 0 MOST_PAIRS
range_of g figures.Workers = ranges.Within 1 MOST_WORKERS
range_of g figures.Any = ranges.Any

abbrev pub IsIn : Range → ℕ → Type 0
IsIn ranges.Any n = n < 2 ^ 64
IsIn (ranges.Below end) n = n < end
IsIn (ranges.Within least most) n = (least ≤ n) × (n ≤ most)

-- ---- words that are what is wanted
-- an operation of the map units, which all of them share
abbrev pub needs_map : Operation → Bool
needs_map operations.Put = true
needs_map operations.Get = true
needs_map operations.Del = true
needs_map _ = false

-- `tick` and `sync` are no operations on a unit
abbrev pub IsOnUnit : Operation → Type 0
IsOnUnit operations.Tick = ⊥
IsOnUnit operations.Sync = ⊥
IsOnUnit _ = Unit {0}

abbrev pub MayBeAsked : Given → Operation → Type 0
MayBeAsked g operation = needs_map operation ≡ true → 0 < maps_given g.layout

abbrev pub IsWord : Given → Wanted → List ℕ → Type 0
IsWord g (wants.Word fixed) word = word ≡ fixed_word fixed
IsWord g (wants.Number figure) word = (n : ℕ) × (word ≡ decimal n) × IsIn (range_of g figure) n
IsWord g (wants.UnitOf kind) word =
    (n : ℕ) × (word ≡ decimal n) × (kind_given g.layout n ≡ Some kind)
IsWord g wants.Key word = IsTextWord word
IsWord g wants.Value word = IsTextWord word
IsWord g wants.Kinds word = AreKinds word
IsWord g wants.Mask word = IsMask word
IsWord g wants.Deed word =
    (operation : Operation) × (word ≡ operation_word operation) × MayBeAsked g operation
IsWord g wants.Operation word =
    (operation : Operation) × (word ≡ operation_word operation) × IsOnUnit operation
    × MayBeAsked g operation
IsWord g wants.Event word = (event : Event) × (word ≡ event_word event)
IsWord g wants.Part word = (part : Part) × (word ≡ part_word part)
IsWord g wants.Reply word = (reply : Reply) × (word ≡ reply_word reply)
IsWord g wants.Form word = (form : Form) × (word ≡ form_word form)
IsWord g wants.File word = Unit {0}

-- ---- why a word isn't
-- a number that isn't in the range of its place
abbrev pub IsOutside : Range → List ℕ → ℕ → Type 0
IsOutside range word number = (word ≡ decimal number) × ¬ IsIn range number

-- an operation of the maps, of which the layout has none
abbrev pub LacksMap : Given → List ℕ → Type 0
LacksMap g word =
    (operation : Operation) × (word ≡ operation_word operation)
    × (needs_map operation ≡ true) × (maps_given g.layout ≡ 0)

abbrev pub IsFault : Given → Wanted → List ℕ → WordFault → Type 0
IsFault g (wants.Word fixed) word faults.Other = word ≢ fixed_word fixed
IsFault g (wants.Number figure) word (faults.Number fault) = IsNumberFault word fault
IsFault g (wants.Number figure) word (faults.Outside number range) =
    (range ≡ range_of g figure) × IsOutside range word number
IsFault g (wants.UnitOf kind) word (faults.Number fault) = IsNumberFault word fault
IsFault g (wants.UnitOf kind) word (faults.NoUnit number units) =
    (word ≡ decimal number) × (units ≡ units_given g.layout) × (units ≤ number)
IsFault g (wants.UnitOf kind) word (faults.OtherKind number other) =
    (word ≡ decimal number) × (kind_given g.layout number ≡ Some other) × (other ≢ kind)
IsFault g wants.Key word (faults.Text fault) = IsTextFault word fault
IsFault g wants.Value word (faults.Text fault) = IsTextFault word fault
IsFault g wants.Kinds word (faults.Kinds fault) = IsKindsFault word fault
IsFault g wants.Mask word (faults.Mask fault) = IsMaskFault word fault
IsFault g wants.Deed word faults.Unknown =
    (operation : Operation) → word ≢ operation_word operation
IsFault g wants.Deed word faults.NoMap = LacksMap g word
IsFault g wants.Operation word faults.Unknown =
    (operation : Operation) → IsOnUnit operation → word ≢ operation_word operation
IsFault g wants.Operation word faults.NoMap = LacksMap g word
IsFault g wants.Event word faults.Unknown = (event : Event) → word ≢ event_word event
IsFault g wants.Part word faults.Unknown = (part : Part) → word ≢ part_word part
IsFault g wants.Reply word faults.Unknown = (reply : Reply) → word ≢ reply_word reply
IsFault g wants.Form word faults.Unknown = (form : Form) → word ≢ form_word form
IsFault g _ word _ = ⊥
