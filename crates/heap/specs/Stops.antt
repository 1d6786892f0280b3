-- With which seats a heap is stopped, and what its words are then.
use Rattle.std.specs.Prelude.{◌≡◌, ℕ, ◌≤◌, false, List, map, length, take, slice_get, Some, All}
use Rattle.mont_base.specs.declared.memory.Words.{Words}
use Rattle.mont_base.specs.declared.operation.Entry.{Entry}
use Rattle.mont_base.specs.History.{state_after, cut_at}
use Rattle.mont_base.specs.Image.{IsPermitted, IsRecovered, IsWellFormed, clock_of, cut_of, records_of}
use Rattle.mont_base.specs.Layout.{units_of}
use Rattle.mont_base.specs.State.{State}
use Rattle.mont_base.specs.Structure.{IsStructure}
use Rattle.mont_base.specs.Versions.{live_objects}
use Rattle.core_steps.specs.declared.event.Event.{Event}
use Rattle.core_steps.specs.declared.parts.Core.{Core}
use Rattle.core_steps.specs.Clock.{clock, durable_clock}
use Rattle.core_steps.specs.Notes.{histories_of}
use Rattle.core_steps.specs.Opened.{recovered, opened_at}
use Rattle.core_steps.specs.Places.{EachAt}
use Rattle.core_steps.specs.Sound.{base_state, IsSound}
use Rattle.heap_rule.specs.declared.rule.Opening.{Opening}
use Rattle.heap_rule.specs.declared.views.View.{View}
use Rattle.heap_rule.specs.Views.{nothing}
use Rattle.heap_rule.specs.Rule.{IsRun, IsLearnt, AreLeft, AreLists, seen_in}
use Rattle.heap.specs.HeapShown.{HeapShown, UnitShown, AdvShown, CallerShown}

-- ---- the seats
abbrev pub IsSeatOfUnit : HeapShown → ℕ → UnitShown → Type 0
IsSeatOfUnit heap u s = (s.table ≡ heap.table) × (s.known.unit ≡ u)

abbrev pub IsSeatOfCaller : HeapShown → ℕ → CallerShown → Type 0
IsSeatOfCaller heap k s = (s.table ≡ heap.table) × (s.known.caller ≡ k)

-- all seats of the heap: one of each unit and of each caller, by their numbers, and the advancer's
pub record AreAllSeats
    (heap : HeapShown) (units : List UnitShown) (advancer : AdvShown) (callers : List CallerShown)
    : Type 0 where
  pub unit_count : length units ≡ units_of heap.opening.layout
  pub each_unit : EachAt (IsSeatOfUnit heap) units
  pub the_advancer : advancer.table ≡ heap.table
  pub caller_count : length callers ≡ heap.opening.callers
  pub each_caller : EachAt (IsSeatOfCaller heap) callers

abbrev pub AreUnitsOf : HeapShown → List UnitShown → Type 0
AreUnitsOf heap units = All (λ (s : UnitShown). s.table ≡ heap.table) units

abbrev pub AreCallersOf : HeapShown → List CallerShown → Type 0
AreCallersOf heap callers = All (λ (s : CallerShown). s.table ≡ heap.table) callers

-- no unit has its list out
abbrev pub AreAtHome : List UnitShown → Type 0
AreAtHome units = All (λ (s : UnitShown). s.known.turn.out ≡ false) units

-- what these seats know
abbrev pub units_view : List UnitShown → View
units_view units = record nothing { units = map (λ (s : UnitShown). s.known) units }

abbrev pub callers_view : List CallerShown → View
callers_view callers = record nothing { callers = map (λ (s : CallerShown). s.known) callers }

-- ---- the core
-- its parts are those that the seats showed
pub record HasParts
    (c : Core) (units : List UnitShown) (advancer : AdvShown) (callers : List CallerShown)
    : Type 0 where
  pub units_are : c.units ≡ map (λ (s : UnitShown). s.known.part) units
  pub advancer_is : c.advancer ≡ advancer.known.part
  pub odd_is : c.odd ≡ advancer.known.odd
  pub callers_are : c.callers ≡ map (λ (s : CallerShown). s.known.part) callers

-- what the seats showed beside their parts is true of it
pub record IsToldTruly
    (c : Core) (units : List UnitShown) (advancer : AdvShown) (callers : List CallerShown)
    : Type 0 where
  pub clock_is : clock c ≡ advancer.known.clock
  pub durable_is : durable_clock c ≡ advancer.known.durable
  pub lists_are : AreLists c advancer.known.lists
  pub learnt_by_units : All (λ (s : UnitShown). IsLearnt c s.known.learnt) units
  pub learnt_by_advancer : IsLearnt c advancer.known.learnt
  pub seen : All
      (λ (s : CallerShown). s.known.entries ≡ seen_in s.known.part.fronts (histories_of c.units))
      callers
  pub left : All (λ (s : CallerShown). AreLeft c.units s.known.within) callers

-- Both memories are those of a core that a run of allowed steps leads to from the one with which
-- the store opened, and of which the seats showed the parts.
pub record StopsAt
    (o : Opening) (units : List UnitShown) (advancer : AdvShown) (callers : List CallerShown)
    (words : Words) : Type 0 where
  pub core : Core
  pub events : List Event
  pub run : IsRun (recovered o.layout o.words o.callers) events core
  -- with every base that recovery gives of the words with which the store opened
  pub sound :
      (states : List State) → IsRecovered o.layout o.words states
      → IsSound (opened_at (clock_of o.words) states) core
  pub layout : (words.layout ≡ o.layout) × (core.layout ≡ o.layout)
  pub current : words.cur ≡ core.cur
  pub durable : words.dur ≡ core.dur
  pub parts : HasParts core units advancer callers
  pub told : IsToldTruly core units advancer callers

-- ---- what a crash leaves of such words
-- the state to which the history that the unit's seat showed leads up to the image's cut
abbrev pub shown_cut : Opening → List State → List ℕ → ℕ → UnitShown → State
shown_cut o states image u s = state_after (base_state (opened_at (clock_of o.words) states) u)
    (cut_at (cut_of image) s.known.part.history)

abbrev pub IsShownCut : Opening → List State → List ℕ → ℕ → UnitShown → Type 0
IsShownCut o states image u s = IsStructure o.layout u
    (live_objects (records_of o.layout image u)) (shown_cut o states image u s)

-- The image is recovered with, of each unit, the state to which the history that its seat showed
-- leads up to the image's cut. What a caller knew to be durable is in the cut.
pub record HoldsShownCut
    (o : Opening) (states : List State) (units : List UnitShown) (callers : List CallerShown)
    (image : List ℕ) : Type 0 where
  pub well_formed : IsWellFormed o.layout image
  pub cut : EachAt (IsShownCut o states image) units
  pub synced :
      (k u n : ℕ) (q : CallerShown) (s : UnitShown) → slice_get callers k ≡ Some q
      → slice_get q.known.part.synced u ≡ Some n → slice_get units u ≡ Some s
      → All (λ (e : Entry). e.epoch ≤ cut_of image) (take n s.known.part.history)

-- Every image that a crash permits of the words of a heap that was stopped holds that cut, and its
-- clock is not before the durable one that the advancer's seat showed, nor behind the current one.
abbrev pub StoppedWordsHoldCuts : Type 0
StoppedWordsHoldCuts =
    (o : Opening) (states : List State) (units : List UnitShown) (advancer : AdvShown)
    (callers : List CallerShown) (words : Words) (image : List ℕ)
    → IsRecovered o.layout o.words states → StopsAt o units advancer callers words
    → IsPermitted words.cur words.dur image
    → HoldsShownCut o states units callers image
    × (advancer.known.durable ≤ clock_of image) × (clock_of image ≤ advancer.known.clock)
