-- The rule of the table: there is a core, reached from the one with which the store opened by
-- allowed steps, whose words are the table's, to whose records the lists at home belong, and which
-- every view fits.
use Rattle.std.specs.Prelude.{◌≡◌, ℕ, ◌-◌, ◌<◌, ◌≤◌, true, List, [], ◌∷◌, length, take, slice_get, Some, All}
use mathlib.Core.Option.{Option, some}
use lib.ListN.{get_elem?}
use Rattle.atomic_table.specs.Table.{State}
use Rattle.mont_base.specs.declared.operation.Entry.{Entry}
use Rattle.mont_base.specs.Image.{clock_of, IsWellFormed, IsRecovered}
use Rattle.mont_base.specs.State.{State as Contents}
use Rattle.core_steps.specs.declared.event.Event.{Event}
use Rattle.core_steps.specs.declared.parts.Core.{Core}
use Rattle.core_steps.specs.declared.parts.UnitPart.{UnitPart}
use Rattle.core_steps.specs.Clock.{clock, durable_clock}
use Rattle.core_steps.specs.Stages.{passed_of}
use Rattle.core_steps.specs.Flushing.{unit_list}
use Rattle.core_steps.specs.Notes.{histories_of, lefts_of, IsTrueNote}
use Rattle.core_steps.specs.Events.{IsAllowed, after}
use Rattle.core_steps.specs.Opened.{recovered, opened_at}
use Rattle.core_steps.specs.Sound.{IsSound}
use Rattle.heap_rule.specs.declared.rule.Opening.{Opening}
use Rattle.heap_rule.specs.declared.views.Learnt.{Learnt}
use Rattle.heap_rule.specs.declared.views.UnitTurn.{UnitTurn}
use Rattle.heap_rule.specs.declared.views.UnitKnown.{UnitKnown}
use Rattle.heap_rule.specs.declared.views.FullTurn.{FullTurn}
use Rattle.heap_rule.specs.declared.views.AdvKnown.{AdvKnown}
use Rattle.heap_rule.specs.declared.views.LeftWithin.{LeftWithin}
use Rattle.heap_rule.specs.declared.views.CallerKnown.{CallerKnown}
use Rattle.heap_rule.specs.declared.views.NoteKnown.{NoteKnown}
use Rattle.heap_rule.specs.declared.views.View.{View}
use Rattle.heap_rule.specs.Views.{Cell, list_at, is_among}
use Rattle.heap_rule.specs.TableWords.{table_words}
use Rattle.heap_rule.specs.HomeLists.{full_at, HomesFit, IsTouched}

-- P of each item, so that it computes at a list that is written out
abbrev pub Each : {A : Type 0} → (A → Type 0) → List A → Type 0
Each P [] = Unit {0}
Each P (x ∷ xs) = P x × Each P xs

-- ---- the core, and where the lists are
pub record Board : Type 0 where
  pub core : Core
  pub turn : ℕ → UnitTurn
  pub full : FullTurn

-- the advancer has passed the unit
abbrev pub HasPassed : Core → ℕ → Type 0
HasPassed c u = u < passed_of (length c.units) c.advancer

-- the lists of all units stand where they belong
abbrev pub Homes : Board → List (Option Cell) → Type 0
Homes b homes =
    (u : ℕ) (p : UnitPart) → slice_get b.core.units u ≡ Some p
    → HomesFit b.core.layout.slots (clock b.core) p (b.turn u) (full_at b.full u) homes u

-- the advancer has begun with lists only of units that it has passed
abbrev pub Passed : Board → Type 0
Passed b = (u : ℕ) → IsTouched (full_at b.full u) → HasPassed b.core u

-- ---- which seat has which part
pub record Owners : Type 0 where
  pub unit : ℕ → ℕ
  pub advancer : ℕ
  pub caller : ℕ → ℕ

-- ---- what is true of a view
-- what was learnt from notes is reached
pub record IsLearnt (c : Core) (l : Learnt) : Type 0 where
  pub newest : l.newest ≤ clock c
  pub durable : l.durable ≤ durable_clock c

-- these units have no lost slot
abbrev pub AreClean : List UnitPart → List ℕ → Type 0
AreClean units clean =
    (u : ℕ) (p : UnitPart) → slice_get units u ≡ Some p → is_among clean u ≡ true → p.lost ≡ []

-- of each history so many entries
abbrev pub seen_in : List ℕ → List (List Entry) → List (List Entry)
seen_in [] histories = []
seen_in (n ∷ ns) [] = []
seen_in (n ∷ ns) (h ∷ hs) = take n h ∷ seen_in ns hs

-- a caller was cut in the unit, which is left within the epoch
abbrev pub IsLeft : List UnitPart → LeftWithin → Type 0
IsLeft units w = slice_get (lefts_of units) w.unit ≡ Some (Some w.epoch)

abbrev pub AreLeft : List UnitPart → List LeftWithin → Type 0
AreLeft units within = All (IsLeft units) within

pub record FitsUnit (b : Board) (own : Owners) (seat : ℕ) (h : UnitKnown) : Type 0 where
  pub mine : own.unit h.unit ≡ seat
  pub part : slice_get b.core.units h.unit ≡ Some h.part
  pub turn : b.turn h.unit ≡ h.turn
  pub room : b.core.layout.slots ≡ h.room
  pub learnt : IsLearnt b.core h.learnt
  pub clean : AreClean b.core.units h.clean

-- the lists of the units that were passed
abbrev pub AreLists : Core → List (List ℕ) → Type 0
AreLists c lists =
    (u : ℕ) (p : UnitPart) → slice_get c.units u ≡ Some p → HasPassed c u
    → list_at lists u ≡ unit_list (clock c - 1) p

pub record FitsAdvancer (b : Board) (own : Owners) (seat : ℕ) (a : AdvKnown) : Type 0 where
  pub mine : own.advancer ≡ seat
  pub part : b.core.advancer ≡ a.part
  pub clock_is : clock b.core ≡ a.clock
  pub durable : durable_clock b.core ≡ a.durable
  pub odd : b.core.odd ≡ a.odd
  pub units : length b.core.units ≡ a.units
  pub room : b.core.layout.slots ≡ a.room
  pub list_count : length a.lists ≡ a.units
  pub lists : AreLists b.core a.lists
  pub turn : b.full ≡ a.turn
  pub learnt : IsLearnt b.core a.learnt
  pub clean : AreClean b.core.units a.clean

pub record FitsCaller (b : Board) (own : Owners) (seat : ℕ) (q : CallerKnown) : Type 0 where
  pub mine : own.caller q.caller ≡ seat
  pub part : slice_get b.core.callers q.caller ≡ Some q.part
  pub entries : q.entries ≡ seen_in q.part.fronts (histories_of b.core.units)
  pub left : AreLeft b.core.units q.within
  pub clean : AreClean b.core.units q.clean

pub record FitsNote (b : Board) (n : NoteKnown) : Type 0 where
  pub is_true : IsTrueNote b.core n.note
  pub entries : n.entries ≡ seen_in n.note.fronts (histories_of b.core.units)
  pub clean : AreClean b.core.units n.clean

pub record FitsView (b : Board) (own : Owners) (seat : ℕ) (v : View) : Type 0 where
  pub units : Each (FitsUnit b own seat) v.units
  pub advancers : Each (FitsAdvancer b own seat) v.advancers
  pub callers : Each (FitsCaller b own seat) v.callers
  pub notes : Each (FitsNote b) v.notes

-- ---- the steps that were made, the last first
abbrev pub IsRun : Core → List Event → Core → Type 0
IsRun start [] c = c ≡ start
IsRun start (e ∷ es) c =
    (b : Core) × IsRun start es b × IsAllowed b e × (c ≡ after b e)

-- The table of a store that was opened like this shows a core of it.
pub record ShowsCore (o : Opening) (s : State Cell View) : Type 0 where
  pub board : Board
  pub own : Owners
  pub accepted : IsWellFormed o.layout o.words
  pub states : List Contents
  pub base : IsRecovered o.layout o.words states
  pub events : List Event
  pub run : IsRun (recovered o.layout o.words o.callers) events board.core
  pub sound : IsSound (opened_at (clock_of o.words) states) board.core
  pub layout : board.core.layout ≡ o.layout
  pub callers : length board.core.callers ≡ o.callers
  pub words : s.words ≡ table_words board.core
  pub passed : Passed board
  pub homes : Homes board s.homes
  pub views : (seat : ℕ) (v : View) → get_elem? s.views seat ≡ some v → FitsView board own seat v
