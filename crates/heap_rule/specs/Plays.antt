-- What each step tells: the seat after it, and what the rule says of the word that was found.
use Rattle.std.specs.Prelude.{◌≡◌, ℕ, ◌+◌, ◌-◌, ◌*◌, ◌/◌, ◌<◌, ◌≤◌, ◌⊎◌, List, ◌∷◌, ◌++◌, length, max, take, slice_get, slice_index, All, Some}
use Rattle.atomic_table.specs.Table.{Step, rest}
use Rattle.mont_base.specs.declared.constants.TheConstants.{FIRST_CLOCK, LAST}
use Rattle.mont_base.specs.Image.{clock_of}
use Rattle.mont_base.specs.declared.operation.Entry.{Entry}
use Rattle.mont_base.specs.declared.operation.Op.{Op}
use Rattle.mont_base.specs.declared.operation.Reply.{Reply}
use Rattle.core_steps.specs.declared.parts.UnitPart.{UnitPart}
use Rattle.core_steps.specs.Stages.{epoch_of}
use Rattle.core_steps.specs.Advancing.{unit_at_hand}
use Rattle.core_steps.specs.CallAnswers.{entry_of}
use Rattle.core_steps.specs.Events.{closing_of}
use Rattle.core_steps.specs.Flushing.{unit_list}
use Rattle.core_steps.specs.Notes.{last_epoch}
use Rattle.core_steps.specs.Sound.{announcement}
use Rattle.heap_rule.specs.declared.rule.Opening.{Opening}
use Rattle.heap_rule.specs.declared.views.Learnt.{Learnt}
use Rattle.heap_rule.specs.declared.views.UnitKnown.{UnitKnown}
use Rattle.heap_rule.specs.declared.views.AdvKnown.{AdvKnown}
use Rattle.heap_rule.specs.declared.views.CallerKnown.{CallerKnown}
use Rattle.heap_rule.specs.declared.views.NoteKnown.{NoteKnown}
use Rattle.heap_rule.specs.Views.{Cell, Seated, listing, list_place, list_at, listed_in, unit_view, advancer_view, caller_view, pair_view, the_unit, the_advancer, the_caller, the_note, unit_looked, unit_told, unit_confirmed, unit_wrote, unit_withdrew, unit_loaded_durable, unit_closed, unit_persisted, unit_left, unit_read, unit_frozen, unit_took, unit_gave, advancer_checked, advancer_loaded, advancer_persisted, advancer_set, advancer_rested, advancer_took, advancer_gave, place_at_hand, caller_answered, caller_saw, caller_cut, caller_heard, note_of_unit}
use Rattle.heap_rule.specs.SeenEntries.{SeesBoth}
use Rattle.heap_rule.specs.TableWords.{slot_at, field_at}
use Rattle.heap_rule.specs.SoundUnits.{IsSoundUnit}

-- A clock that was loaded is in its range, and not below what is known from notes, nor below what
-- the unit has seen itself.
pub record IsClock (l : Learnt) (p : UnitPart) (found : ℕ) : Type 0 where
  pub low : FIRST_CLOCK ≤ found
  pub high : found ≤ LAST
  pub not_before : l.newest ≤ found
  pub not_behind : l.durable ≤ found
  pub after_entries : last_epoch p.history ≤ found
  pub after_durable : p.durable ≤ found

-- a durable clock is not below one that was known
pub record IsDurable (known found : ℕ) : Type 0 where
  pub low : FIRST_CLOCK ≤ found
  pub high : found ≤ LAST
  pub not_behind : known ≤ found

abbrev pub looked : Step Cell → Seated → ℕ → Seated → Type 0
looked s m found n =
    let h : UnitKnown = the_unit m.0 in
    (n ≡ (unit_view (unit_looked h found), m.1)) × IsClock h.learnt h.part found

abbrev pub told : Step Cell → Seated → ℕ → Seated → Type 0
told s m found n = n ≡ (unit_view (unit_told (the_unit m.0) (s.first / 2)), m.1)

abbrev pub confirmed : Step Cell → Seated → ℕ → Seated → Type 0
confirmed s m found n =
    let h : UnitKnown = the_unit m.0 in
    (n ≡ (unit_view (unit_confirmed h found), m.1)) × IsClock h.learnt h.part found

abbrev pub wrote : Step Cell → Seated → ℕ → Seated → Type 0
wrote s m found n =
    n ≡ (unit_view (unit_wrote (the_unit m.0) (slot_at s.word) (field_at s.word) s.first), m.1)

abbrev pub withdrew : Step Cell → Seated → ℕ → Seated → Type 0
withdrew s m found n = n ≡ (unit_view (unit_withdrew (the_unit m.0)), m.1)

abbrev pub loaded_durable : Opening → Step Cell → Seated → ℕ → Seated → Type 0
loaded_durable o s m found n =
    let h : UnitKnown = the_unit m.0 in
    (n ≡ (unit_view (unit_loaded_durable h found), m.1))
    × IsDurable (max h.part.durable h.learnt.durable) found
    × ((now : ℕ) × IsSoundUnit o now found (unit_loaded_durable h found))

abbrev pub closed : Step Cell → Seated → ℕ → Seated → Type 0
closed s m found n = n ≡ (unit_view (unit_closed (the_unit m.0) (slot_at s.word)), m.1)

abbrev pub persisted : Opening → Step Cell → Seated → ℕ → Seated → Type 0
persisted o s m found n =
    let h : UnitKnown = the_unit m.0 in
    let w : UnitKnown = unit_persisted h (closing_of h.part.stage) in
    (n ≡ (unit_view w, m.1)) × ((now durable : ℕ) × IsSoundUnit o now durable w)

-- ---- what a caller has seen of a unit
-- Its front there is not beyond the unit's history, and the entries that it keeps of the unit are
-- those before its front.
pub record IsNotBeyond (q : CallerKnown) (h : UnitKnown) : Type 0 where
  pub front : slice_index q.part.fronts h.unit ≤ length h.part.history
  pub entries :
      slice_get q.entries h.unit
      ≡ Some (take (slice_index q.part.fronts h.unit) h.part.history)

-- all entries of the unit
pub record HasSeenAll (q : CallerKnown) (h : UnitKnown) : Type 0 where
  pub front : slice_index q.part.fronts h.unit ≡ length h.part.history
  pub entries : slice_get q.entries h.unit ≡ Some h.part.history

-- The caller takes a note of the unit. The clock that is loaded stands nowhere: the load is no step
-- of the machine.
abbrev pub heard : Opening → Step Cell → Seated → ℕ → Seated → Type 0
heard o s m found n =
    let h : UnitKnown = the_unit m.0 in
    let q : CallerKnown = the_caller m.0 in
    let r : CallerKnown = caller_heard q (note_of_unit (length q.part.fronts) h) in
    (n ≡ (pair_view h r, m.1))
    × IsNotBeyond q h
    × HasSeenAll r h
    × ((now durable : ℕ) × IsSoundUnit o now durable h)

-- The caller takes the note of another, by such a load too.
abbrev pub heard_news : Step Cell → Seated → ℕ → Seated → Type 0
heard_news s m found n =
    let q : CallerKnown = the_caller m.0 in
    let w : NoteKnown = the_note m.0 in
    let r : CallerKnown = caller_heard q w in
    (n ≡ (caller_view r, m.1)) × SeesBoth q.entries w.entries r.entries

-- ---- answers
-- the entry of a caller's operation
abbrev pub answer_of : CallerKnown → Op → Reply → ℕ → Entry
answer_of q op reply epoch = entry_of q.caller q.part op reply epoch

abbrev pub left : Opening → Op → Reply → Step Cell → Seated → ℕ → Seated → Type 0
left o op reply s m found n =
    let h : UnitKnown = the_unit m.0 in
    let q : CallerKnown = the_caller m.0 in
    let e : Entry = answer_of q op reply (epoch_of h.part.stage) in
    (n ≡ (pair_view (unit_left h e) (caller_answered q h e), m.1))
    × IsNotBeyond q h
    × ((now durable : ℕ) × IsSoundUnit o now durable h)
    × ((now durable : ℕ) × IsSoundUnit o now durable (unit_left h e))

abbrev pub read : Opening → Op → Reply → Step Cell → Seated → ℕ → Seated → Type 0
read o op reply s m found n =
    let h : UnitKnown = the_unit m.0 in
    let q : CallerKnown = the_caller m.0 in
    let e : Entry = answer_of q op reply found in
    (n ≡ (pair_view (unit_read h found e) (caller_answered q h e), m.1))
    × IsNotBeyond q h
    × IsClock (record {
      newest = max h.learnt.newest q.part.newest;
      durable = max h.learnt.durable q.part.durable;
    }) h.part found
    × ((now durable : ℕ) × IsSoundUnit o now durable h)
    × ((durable : ℕ) × IsSoundUnit o found durable (unit_read h found e))

abbrev pub frozen : Step Cell → Seated → ℕ → Seated → Type 0
frozen s m found n =
    let h : UnitKnown = the_unit m.0 in
    let q : CallerKnown = the_caller m.0 in
    n ≡ (pair_view (unit_frozen h q.caller) (caller_cut q h), m.1)

abbrev pub saw_durable : Step Cell → Seated → ℕ → Seated → Type 0
saw_durable s m found n =
    let q : CallerKnown = the_caller m.0 in
    (n ≡ (caller_view (caller_saw q found), m.1)) × IsDurable q.part.durable found

-- ---- the advancer
-- an announcement is nothing, or an epoch, twice, and one more where a caller was cut
pub record IsEpoch (epoch : ℕ) : Type 0 where
  pub low : FIRST_CLOCK ≤ epoch
  pub high : epoch ≤ LAST

abbrev pub IsAnnouncement : ℕ → Type 0
IsAnnouncement found = (found ≡ 0) ⊎ IsEpoch (found / 2)

-- the list of the unit at hand for the epoch before the clock, by what its part is when this
-- announcement of it is loaded
pub record IsListOf (o : Opening) (a : AdvKnown) (word : ℕ) (list : List ℕ) : Type 0 where
  pub shown : UnitKnown
  pub sound : IsSoundUnit o a.clock a.durable shown
  pub of_unit : shown.unit ≡ unit_at_hand a.part
  pub announced : word ≡ announcement shown.part.stage shown.part.frozen
  pub is : list ≡ unit_list (a.clock - 1) shown.part

abbrev pub checked : Opening → Step Cell → Seated → ℕ → Seated → Type 0
checked o s m found n =
    let a : AdvKnown = the_advancer m.0 in
    ((list : List ℕ)
    × (n ≡ (advancer_view (advancer_checked a found list), m.1))
    × IsListOf o a found list)
    × IsAnnouncement found

abbrev pub loaded_word : Step Cell → Seated → ℕ → Seated → Type 0
loaded_word s m found n = n ≡ (advancer_view (advancer_loaded (the_advancer m.0) found), m.1)

-- no more slots are listed than there are
abbrev pub IsPlaceListed : AdvKnown → Type 0
IsPlaceListed a = place_at_hand a.part < a.units * a.room

abbrev pub persisted_word : Step Cell → Seated → ℕ → Seated → Type 0
persisted_word s m found n =
    let a : AdvKnown = the_advancer m.0 in
    (n ≡ (advancer_view (advancer_persisted a), m.1)) × IsPlaceListed a

-- there is a next clock
abbrev pub set_clock : Step Cell → Seated → ℕ → Seated → Type 0
set_clock s m found n =
    let a : AdvKnown = the_advancer m.0 in
    (n ≡ (advancer_view (advancer_set a), m.1)) × (a.clock < LAST)

-- the clock that is made durable is above every durable clock, that of the opening too, and not
-- below any epoch
pub record IsAhead (o : Opening) (a : AdvKnown) : Type 0 where
  pub low : FIRST_CLOCK ≤ a.durable
  pub begun : clock_of o.words ≤ a.durable
  pub next : a.clock ≡ a.durable + 1
  pub high : a.clock ≤ LAST
  pub reached : a.learnt.newest ≤ a.clock
  pub ahead : a.learnt.durable < a.clock

abbrev pub persisted_clock : Opening → Step Cell → Seated → ℕ → Seated → Type 0
persisted_clock o s m found n =
    let a : AdvKnown = the_advancer m.0 in
    (n ≡ (advancer_view (advancer_rested a), m.1)) × IsAhead o a

-- ---- lists
-- there is room for all that was written
abbrev pub HasRoom : UnitKnown → Type 0
HasRoom h = length (listed_in h) + length h.part.written ≤ h.room

abbrev pub took_list : Step Cell → Seated → ℕ → Seated → Type 0
took_list s m found n =
    let h : UnitKnown = the_unit m.0 in
    let place : ℕ = list_place h.unit (epoch_of h.part.stage) in
    (n ≡ (unit_view (unit_took h), (place, listing h.room (listed_in h ++ h.turn.pushed)) ∷ m.1))
    × HasRoom h

abbrev pub gave_list : Step Cell → Seated → ℕ → Seated → Type 0
gave_list s m found n = n ≡ (unit_view (unit_gave (the_unit m.0)), rest m.1)

-- these are slots of the store
abbrev pub AreSlots : AdvKnown → List ℕ → Type 0
AreSlots a list = All (λ slot. slot < a.units * a.room) list

abbrev pub took_full : Step Cell → Seated → ℕ → Seated → Type 0
took_full s m found n =
    let a : AdvKnown = the_advancer m.0 in
    let u : ℕ = a.turn.emptied in
    (n ≡ (
      advancer_view (advancer_took a),
      (
        list_place u (a.clock + 1),
        listing a.room
            (list_at a.lists u),
      ) ∷ m.1,
    ))
    × AreSlots a (list_at a.lists u)

abbrev pub gave_empty : Step Cell → Seated → ℕ → Seated → Type 0
gave_empty s m found n = n ≡ (advancer_view (advancer_gave (the_advancer m.0)), rest m.1)
