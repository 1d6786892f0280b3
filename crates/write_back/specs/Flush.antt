-- Where a flush stands, beside what the advancer's seat shows.
use Rattle.std.specs.Prelude.{◌≡◌, ℕ, ◌+◌, ◌*◌, ◌<◌, ◌≤◌, Bool, true, false, nat_lt, List, [], length, take, slice_get, Option, Some, None, if◌then◌else◌}
use Rattle.mont_base.specs.declared.constants.TheConstants.{FIELDS}
use Rattle.mont_base.specs.SlotLists.{Roomy}
use Rattle.core_steps.specs.declared.parts.AdvPart.{AdvPart}
use Rattle.core_steps.specs.declared.parts.AdvPart.TheVariants.{Flushing, Holding}
use Rattle.heap_rule.specs.declared.views.AdvKnown.{AdvKnown}
use Rattle.heap_rule.specs.Plays.{AreSlots}
use Rattle.heap_rule.specs.Views.{joined, list_at}
use Rattle.write_back.specs.declared.flush.Flush.{Flush}

-- ---- the seat
-- all units were passed, and the clock has not moved yet
abbrev pub is_flushing : AdvPart → Bool
is_flushing (Flushing done field) = true
is_flushing (Holding done field value) = true
is_flushing _ = false

-- the list of slots that it has out
abbrev pub slots_out : AdvKnown → List ℕ
slots_out a = if a.turn.out then list_at a.lists a.turn.emptied else []

abbrev pub list_out : AdvKnown → Option Roomy
list_out a =
    if a.turn.out then Some (record { slots = list_at a.lists a.turn.emptied; room = a.room })
    else None

-- how many lists were taken out so far
abbrev pub lists_taken : AdvKnown → ℕ
lists_taken a = if a.turn.out then a.turn.emptied + 1 else a.turn.emptied

-- how many slots are listed by the units whose lists were given back
abbrev pub slots_given : AdvKnown → ℕ
slots_given a = length (joined (take a.turn.emptied a.lists))

-- ---- the flush
-- one that has not begun
abbrev pub flush_start : Flush
flush_start = record { unit = 0; list = None; at = 0; field = 0; held = false }

-- the part of an advancer that has this word at hand
abbrev pub part_at : Flush → AdvKnown → AdvPart
part_at flush a =
    if flush.held then Holding (slots_given a + flush.at) flush.field a.loaded
    else Flushing (slots_given a + flush.at) flush.field

-- The flush stands where the seat stands: its list is the one that is out, and the word at hand is
-- the seat's. After the last slot of a list there is no word at hand.
pub record StandsAt (flush : Flush) (a : AdvKnown) : Type 0 where
  pub part : a.part ≡ part_at flush a
  pub unit : flush.unit ≡ a.turn.emptied
  pub units : lists_taken a ≤ a.units
  pub list : flush.list ≡ list_out a
  pub slots : AreSlots a (slots_out a)
  pub place : flush.at ≤ length (slots_out a)
  pub field : flush.field < FIELDS
  pub none_left : flush.at ≡ length (slots_out a) → (flush.field ≡ 0) × (flush.held ≡ false)

-- the slot at hand of a list that is out
abbrev pub slot_in : Option Roomy → ℕ → Option ℕ
slot_in None at = None
slot_in (Some list) at = slice_get list.slots at

-- how many words of the list are durable
abbrev pub words_done : Flush → ℕ
words_done flush = FIELDS * flush.at + flush.field

-- the word after the one at hand, not loaded
abbrev pub behind_word : Flush → Flush
behind_word flush =
    if nat_lt (flush.field + 1) FIELDS then
    record flush { field = flush.field + 1; held = false }
    else record flush { at = flush.at + 1; field = 0; held = false }

-- the word of the same slot that an advancer has at hand
abbrev pub waiting_at : Flush → AdvPart → Flush
waiting_at flush (Flushing done field) = record flush { field = field; held = false }
waiting_at flush (Holding done field value) = record flush { field = field; held = true }
waiting_at flush _ = flush

-- ---- what a flush makes of a seat
-- its part, its turn, its count of steps and the word that it loaded last are those of another
abbrev pub with_flush_of : AdvKnown → AdvKnown → AdvKnown
with_flush_of a b =
    record a { part = b.part; turn = b.turn; steps = b.steps; loaded = b.loaded }

-- every listed slot is durable, and every list was given back empty
pub record IsFlushed (a : AdvKnown) : Type 0 where
  pub part : a.part ≡ Flushing (length (joined a.lists)) 0
  pub turn : a.turn ≡ record { emptied = a.units; out = false }
