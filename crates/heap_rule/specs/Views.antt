-- What seats know, by the parts that they have, and what steps and notes make of it.
use Rattle.std.specs.Prelude.{ℕ, zero, suc, ◌+◌, ◌-◌, ◌%◌, ◌*◌, max, Bool, true, false, ◌&&◌, ◌==◌, nat_lt, List, [], ◌∷◌, ◌++◌, length, map, replicate, filter, slice_index, slice_set, if◌then◌else◌, Option, Some, None}
use Rattle.std.specs.List.{list_any, range_with_len}
use Rattle.atomic_table.specs.Table.{Me}
use Rattle.mont_base.specs.SlotLists.{Roomy}
use Rattle.mont_base.specs.Layout.{units_of}
use Rattle.mont_base.specs.Image.{clock_of}
use Rattle.mont_base.specs.declared.operation.Entry.{Entry}
use Rattle.mont_base.specs.declared.record.Held.{Held}
use Rattle.core_steps.specs.declared.parts.UnitPart.{UnitPart}
use Rattle.core_steps.specs.declared.parts.CallerPart.{CallerPart}
use Rattle.core_steps.specs.declared.parts.AdvPart.{AdvPart}
use Rattle.core_steps.specs.declared.parts.AdvPart.TheVariants.{Rest, Flushing, Holding, Clocked}
use Rattle.core_steps.specs.declared.parts.UnitStage.{UnitStage}
use Rattle.core_steps.specs.declared.parts.UnitStage.TheVariants.{Told, Within}
use Rattle.core_steps.specs.Stages.{epoch_of, is_empty}
use Rattle.core_steps.specs.Announcing.{after_tell, after_confirm, after_withdraw, after_freeze, caller_after_freeze}
use Rattle.core_steps.specs.Storing.{after_store}
use Rattle.core_steps.specs.CallAnswers.{after_answer, after_leave, after_read}
use Rattle.core_steps.specs.Closing.{after_load_durable, after_see_durable, after_close_label, after_persist_close}
use Rattle.core_steps.specs.Advancing.{unit_at_hand, lets_pass, after_check, with_odd}
use Rattle.core_steps.specs.Flushing.{unit_list, after_persist_word}
use Rattle.core_steps.specs.Notes.{unit_note, advancer_note, caller_note, after_hear}
use Rattle.core_steps.specs.Fresh.{fresh_caller}
use Rattle.core_steps.specs.Opened.{recovered_unit, slots_beyond}
use Rattle.heap_rule.specs.declared.rule.Opening.{Opening}
use Rattle.heap_rule.specs.declared.views.Learnt.{Learnt}
use Rattle.heap_rule.specs.declared.views.UnitTurn.{UnitTurn}
use Rattle.heap_rule.specs.declared.views.UnitKnown.{UnitKnown}
use Rattle.heap_rule.specs.declared.views.FullTurn.{FullTurn}
use Rattle.heap_rule.specs.declared.views.AdvKnown.{AdvKnown}
use Rattle.heap_rule.specs.declared.views.LeftWithin.{LeftWithin}
use Rattle.heap_rule.specs.declared.views.CallerKnown.{CallerKnown}
use Rattle.heap_rule.specs.declared.views.NoteKnown.{NoteKnown}
use Rattle.heap_rule.specs.declared.views.View.{View}

-- what a slot of the table holds
abbrev pub Cell : Type 0
Cell = Option Roomy

-- a list with its room
abbrev pub listing : ℕ → List ℕ → Cell
listing room slots = Some (record { slots = slots; room = room })

-- a view, and the slots of the table that are out with it
abbrev pub Seated : Type 0
Seated = Me Cell View

-- the slot of the table in which a unit's list for an epoch stands: two by two, by parity
abbrev pub list_place : ℕ → ℕ → ℕ
list_place u x = 2 * u + x % 2

-- ---- views by what they have
abbrev pub nothing : View
nothing = record { units = []; advancers = []; callers = []; notes = [] }

abbrev pub unit_view : UnitKnown → View
unit_view h = record { units = h ∷ []; advancers = []; callers = []; notes = [] }

abbrev pub advancer_view : AdvKnown → View
advancer_view a = record { units = []; advancers = a ∷ []; callers = []; notes = [] }

abbrev pub caller_view : CallerKnown → View
caller_view q = record { units = []; advancers = []; callers = q ∷ []; notes = [] }

abbrev pub note_view : NoteKnown → View
note_view n = record { units = []; advancers = []; callers = []; notes = n ∷ [] }

-- a unit with a caller, and the advancer with one
abbrev pub pair_view : UnitKnown → CallerKnown → View
pair_view h q = record { units = h ∷ []; advancers = []; callers = q ∷ []; notes = [] }

abbrev pub heard_view : AdvKnown → CallerKnown → View
heard_view a q = record { units = []; advancers = a ∷ []; callers = q ∷ []; notes = [] }

-- a caller with the note of another
abbrev pub news_view : CallerKnown → NoteKnown → View
news_view q n = record { units = []; advancers = []; callers = q ∷ []; notes = n ∷ [] }

-- ---- turns
-- a list that is at home with nothing pushed, and lists of which none was taken
abbrev pub home_turn : UnitTurn
home_turn = record { out = false; pushed = [] }

abbrev pub full_rest : FullTurn
full_rest = record { emptied = 0; out = false }

-- ---- what the first seat knows
abbrev pub none_learnt : Learnt
none_learnt = record { newest = 0; durable = 0 }

-- the units that have no slot left open beyond the cut
abbrev pub clean_at : Opening → List ℕ
clean_at o =
    filter (λ (u : ℕ). is_empty (slots_beyond o.layout o.words u))
    (range_with_len 0 (units_of o.layout))

abbrev pub first_unit : Opening → ℕ → UnitKnown
first_unit o u = record {
  unit = u;
  room = o.layout.slots;
  part = recovered_unit o.layout o.words u;
  turn = home_turn;
  steps = 0;
  loaded = 0;
  learnt = none_learnt;
  clean = clean_at o;
}

abbrev pub first_advancer : Opening → AdvKnown
first_advancer o = record {
  part = Rest;
  clock = clock_of o.words;
  durable = clock_of o.words;
  odd = [];
  units = units_of o.layout;
  room = o.layout.slots;
  lists = replicate (units_of o.layout) [];
  turn = full_rest;
  steps = 0;
  loaded = 0;
  learnt = none_learnt;
  clean = clean_at o;
}

abbrev pub first_caller : Opening → ℕ → CallerKnown
first_caller o k = record {
  caller = k;
  part = fresh_caller (units_of o.layout);
  entries = replicate (units_of o.layout) [];
  within = [];
  steps = 0;
  loaded = 0;
  clean = clean_at o;
}

-- so many from a number on
abbrev pub units_from : Opening → ℕ → ℕ → List UnitKnown
units_from o u zero = []
units_from o u (suc n) = first_unit o u ∷ units_from o (u + 1) n

abbrev pub callers_from : Opening → ℕ → ℕ → List CallerKnown
callers_from o k zero = []
callers_from o k (suc n) = first_caller o k ∷ callers_from o (k + 1) n

-- what is left once the first u units and the first k callers have seats of their own
abbrev pub view_without : Opening → ℕ → ℕ → View
view_without o u k = record {
  units = units_from o u (units_of o.layout - u);
  advancers = first_advancer o ∷ [];
  callers = callers_from o k (o.callers - k);
  notes = [];
}

abbrev pub first_view : Opening → View
first_view o = view_without o 0 0

-- ---- the one part of a view that has one
abbrev pub some_opening : Opening
some_opening =
    record { layout = record { kinds = []; slots = 0 }; words = []; callers = 0 }

abbrev pub unit_in : List UnitKnown → UnitKnown
unit_in [] = first_unit some_opening 0
unit_in (h ∷ hs) = h

abbrev pub advancer_in : List AdvKnown → AdvKnown
advancer_in [] = first_advancer some_opening
advancer_in (a ∷ rest) = a

abbrev pub caller_in : List CallerKnown → CallerKnown
caller_in [] = first_caller some_opening 0
caller_in (q ∷ qs) = q

abbrev pub note_in : List NoteKnown → NoteKnown
note_in [] = record {
  note = record { fronts = []; newest = 0; durable = 0; marks = [] };
  entries = [];
  loaded = 0;
  clean = [];
}
note_in (n ∷ ns) = n

abbrev pub the_unit : View → UnitKnown
the_unit v = unit_in v.units

abbrev pub the_advancer : View → AdvKnown
the_advancer v = advancer_in v.advancers

abbrev pub the_caller : View → CallerKnown
the_caller v = caller_in v.callers

abbrev pub the_note : View → NoteKnown
the_note v = note_in v.notes

-- ---- slots of the table that are out with a seat
abbrev pub unit_out : UnitKnown → List (ℕ × Cell)
unit_out h =
    if h.turn.out then (list_place h.unit (epoch_of h.part.stage), None) ∷ [] else []

abbrev pub advancer_out : AdvKnown → List (ℕ × Cell)
advancer_out a =
    if a.turn.out then (list_place a.turn.emptied (a.clock + 1), None) ∷ [] else []

-- ---- lists
-- the slots of the unit's records of the epoch in which it writes, and of what it has written
abbrev pub listed_in : UnitKnown → List ℕ
listed_in h = unit_list (epoch_of h.part.stage) h.part

abbrev pub slots_written : UnitPart → List ℕ
slots_written p = map (λ (w : Held). w.slot) p.written

abbrev pub list_at : List (List ℕ) → ℕ → List ℕ
list_at [] i = []
list_at (l ∷ ls) zero = l
list_at (l ∷ ls) (suc i) = list_at ls i

-- the lists that the advancer knows, one after the other
abbrev pub joined : List (List ℕ) → List ℕ
joined [] = []
joined (l ∷ ls) = l ++ joined ls

-- ---- clean units
abbrev pub is_among : List ℕ → ℕ → Bool
is_among clean u = list_any (λ v. v == u) clean

-- the first n units are
abbrev pub are_clean : ℕ → List ℕ → Bool
are_clean zero clean = true
are_clean (suc n) clean = is_among clean n && are_clean n clean

-- ---- what steps make of a unit's seat
-- a store, and a load
abbrev pub unit_stored : UnitKnown → UnitPart → UnitKnown
unit_stored h p = record h { part = p; steps = h.steps + 1 }

abbrev pub unit_loaded : UnitKnown → ℕ → UnitPart → UnitKnown
unit_loaded h found p = record h { part = p; steps = h.steps + 1; loaded = found }

abbrev pub unit_looked : UnitKnown → ℕ → UnitKnown
unit_looked h found = unit_loaded h found h.part

abbrev pub unit_told : UnitKnown → ℕ → UnitKnown
unit_told h epoch = unit_stored h (after_tell h.part epoch)

abbrev pub unit_confirmed : UnitKnown → ℕ → UnitKnown
unit_confirmed h found = unit_loaded h found (after_confirm h.part found)

abbrev pub unit_wrote : UnitKnown → ℕ → ℕ → ℕ → UnitKnown
unit_wrote h slot field value = unit_stored h (after_store h.part slot field value)

abbrev pub unit_withdrew : UnitKnown → UnitKnown
unit_withdrew h = unit_stored h (after_withdraw h.part)

abbrev pub unit_loaded_durable : UnitKnown → ℕ → UnitKnown
unit_loaded_durable h found = unit_loaded h found (after_load_durable h.part found)

abbrev pub unit_closed : UnitKnown → ℕ → UnitKnown
unit_closed h slot = unit_stored h (after_close_label h.part slot)

-- a unit without a lost slot is clean
abbrev pub with_clean : List ℕ → ℕ → UnitPart → List ℕ
with_clean clean u p = if is_empty p.lost then u ∷ clean else clean

abbrev pub unit_persisted : UnitKnown → ℕ → UnitKnown
unit_persisted h slot =
    record (unit_stored h (after_persist_close h.part slot)) {
      clean = with_clean h.clean h.unit (after_persist_close h.part slot);
    }

abbrev pub unit_left : UnitKnown → Entry → UnitKnown
unit_left h e = record (unit_stored h (after_leave h.part e)) { turn = home_turn }

abbrev pub unit_read : UnitKnown → ℕ → Entry → UnitKnown
unit_read h found e = unit_loaded h found (after_read h.part e)

abbrev pub unit_frozen : UnitKnown → ℕ → UnitKnown
unit_frozen h k = unit_stored h (after_freeze h.part k)

-- what is announced where a caller is cut
abbrev pub odd_announcement : UnitStage → ℕ
odd_announcement (Told e) = 2 * e + 1
odd_announcement (Within e) = 2 * e + 1
odd_announcement _ = 0

-- its list is taken out, and given back with all written slots pushed
abbrev pub unit_took : UnitKnown → UnitKnown
unit_took h = record h { turn = record { out = true; pushed = h.turn.pushed } }

abbrev pub unit_gave : UnitKnown → UnitKnown
unit_gave h = record h { turn = record { out = false; pushed = slots_written h.part } }

-- ---- of the advancer's
-- the list of the unit that is passed is remembered
abbrev pub lists_checked : AdvKnown → ℕ → List ℕ → List (List ℕ)
lists_checked a found list =
    if lets_pass a.clock found then slice_set a.lists (unit_at_hand a.part) list else a.lists

abbrev pub advancer_checked : AdvKnown → ℕ → List ℕ → AdvKnown
advancer_checked a found list = record a {
  part = after_check a.units a.clock found a.part;
  odd = with_odd a.odd (unit_at_hand a.part) found;
  lists = lists_checked a found list;
  steps = a.steps + 1;
  loaded = found;
}

abbrev pub holding : AdvPart → ℕ → AdvPart
holding (Flushing done field) found = Holding done field found
holding a found = a

abbrev pub advancer_loaded : AdvKnown → ℕ → AdvKnown
advancer_loaded a found =
    record a { part = holding a.part found; steps = a.steps + 1; loaded = found }

-- the place in the joined lists, the field and the word at hand
abbrev pub place_at_hand : AdvPart → ℕ
place_at_hand (Flushing done field) = done
place_at_hand (Holding done field value) = done
place_at_hand _ = 0

abbrev pub field_at_hand : AdvPart → ℕ
field_at_hand (Flushing done field) = field
field_at_hand (Holding done field value) = field
field_at_hand _ = 0

abbrev pub word_in_hand : AdvPart → ℕ
word_in_hand (Holding done field value) = value
word_in_hand _ = 0

abbrev pub slot_at_hand : AdvKnown → ℕ
slot_at_hand a = slice_index (joined a.lists) (place_at_hand a.part)

abbrev pub advancer_persisted : AdvKnown → AdvKnown
advancer_persisted a = record a { part = after_persist_word a.part; steps = a.steps + 1 }

abbrev pub advancer_set : AdvKnown → AdvKnown
advancer_set a =
    record a { part = Clocked; clock = a.clock + 1; turn = full_rest; steps = a.steps + 1 }

abbrev pub advancer_rested : AdvKnown → AdvKnown
advancer_rested a = record a { part = Rest; durable = a.clock; steps = a.steps + 1 }

abbrev pub advancer_took : AdvKnown → AdvKnown
advancer_took a = record a { turn = record { emptied = a.turn.emptied; out = true } }

abbrev pub advancer_gave : AdvKnown → AdvKnown
advancer_gave a = record a { turn = record { emptied = a.turn.emptied + 1; out = false } }

-- ---- of a caller's
-- it has seen the unit's history, which ends with the entry that answers it
abbrev pub caller_answered : CallerKnown → UnitKnown → Entry → CallerKnown
caller_answered q h e = record q {
  part = after_answer q.part h.unit (length h.part.history) e;
  entries = slice_set q.entries h.unit (h.part.history ++ e ∷ []);
}

abbrev pub caller_saw : CallerKnown → ℕ → CallerKnown
caller_saw q found =
    record q { part = after_see_durable q.part found; steps = q.steps + 1; loaded = found }

-- a unit that is within an epoch is left within it
abbrev pub left_at : ℕ → UnitStage → List LeftWithin
left_at u (Within e) = record { unit = u; epoch = e } ∷ []
left_at u _ = []

-- it is cut in the unit
abbrev pub caller_cut : CallerKnown → UnitKnown → CallerKnown
caller_cut q h = record q {
  part = caller_after_freeze q.part h.unit;
  within = q.within ++ left_at h.unit h.part.stage;
}

-- ---- notes
-- what a unit, the advancer and a caller show to one that knows so many units
abbrev pub note_of_unit : ℕ → UnitKnown → NoteKnown
note_of_unit units h = record {
  note = unit_note units h.unit h.part;
  entries = slice_set (replicate units []) h.unit h.part.history;
  loaded = h.loaded;
  clean = h.clean;
}

abbrev pub note_of_advancer : ℕ → AdvKnown → NoteKnown
note_of_advancer units a = record {
  note = advancer_note units a.durable a.odd;
  entries = replicate units [];
  loaded = a.loaded;
  clean = a.clean;
}

abbrev pub note_of_caller : CallerKnown → NoteKnown
note_of_caller q = record {
  note = caller_note q.part;
  entries = q.entries;
  loaded = q.loaded;
  clean = q.clean;
}

-- of two fronts of one history the longer one
abbrev pub longer : List Entry → List Entry → List Entry
longer front other = if nat_lt (length front) (length other) then other else front

abbrev pub longer_each : List (List Entry) → List (List Entry) → List (List Entry)
longer_each [] others = []
longer_each (f ∷ fs) [] = f ∷ fs
longer_each (f ∷ fs) (g ∷ gs) = longer f g ∷ longer_each fs gs

-- a caller takes a note
abbrev pub caller_heard : CallerKnown → NoteKnown → CallerKnown
caller_heard q n = record q {
  part = after_hear q.part n.note;
  entries = longer_each q.entries n.entries;
  clean = q.clean ++ n.clean;
}

-- a unit and the advancer take one of a caller
abbrev pub learnt_more : Learnt → CallerPart → Learnt
learnt_more l q =
    record { newest = max l.newest q.newest; durable = max l.durable q.durable }

abbrev pub unit_shown : UnitKnown → CallerKnown → UnitKnown
unit_shown h q =
    record h { learnt = learnt_more h.learnt q.part; clean = h.clean ++ q.clean }

abbrev pub advancer_shown : AdvKnown → CallerKnown → AdvKnown
advancer_shown a q =
    record a { learnt = learnt_more a.learnt q.part; clean = a.clean ++ q.clean }

-- ---- splits and joins of seats
abbrev pub rest_of : {A : Type 0} → List A → List A
rest_of [] = []
rest_of (x ∷ xs) = xs

abbrev pub first_of_all : {A : Type 0} → List A → List A
first_of_all [] = []
first_of_all (x ∷ xs) = x ∷ []

abbrev pub without_first_unit : View → View
without_first_unit v = record v { units = rest_of v.units }

abbrev pub only_first_unit : View → View
only_first_unit v = record nothing { units = first_of_all v.units }

abbrev pub without_first_caller : View → View
without_first_caller v = record v { callers = rest_of v.callers }

abbrev pub only_first_caller : View → View
only_first_caller v = record nothing { callers = first_of_all v.callers }

abbrev pub without_callers : View → View
without_callers v = record v { callers = [] }

abbrev pub only_callers : View → View
only_callers v = record nothing { callers = v.callers }

-- a note of the caller
abbrev pub copied_caller : View → View
copied_caller v = note_view (note_of_caller (the_caller v))

abbrev pub with_units : View → View → View
with_units v w = record v { units = v.units ++ w.units }

abbrev pub with_callers : View → View → View
with_callers v w = record v { callers = v.callers ++ w.callers }

abbrev pub with_notes : View → View → View
with_notes v w = record v { notes = v.notes ++ w.notes }

-- the unit or the advancer of the one takes a note of the caller of the other
abbrev pub shown_caller : View → View → View
shown_caller v w = let q : CallerKnown = the_caller w in record {
  units = map (λ (h : UnitKnown). unit_shown h q) v.units;
  advancers = map (λ (a : AdvKnown). advancer_shown a q) v.advancers;
  callers = w.callers;
  notes = [];
}

-- the caller of the other takes a note of the advancer of the one
abbrev pub heard_advancer : View → View → View
heard_advancer v w = let q : CallerKnown = the_caller w in record v {
  callers = caller_heard q (note_of_advancer (length q.part.fronts) (the_advancer v)) ∷ [];
}
