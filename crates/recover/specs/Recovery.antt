-- A store that was opened from an image, before and while its slots beyond the cut are closed.
use Rattle.std.specs.Prelude.{◌≡◌, ℕ, ◌≤◌, Bool, true, List, length, map, All}
use Rattle.std.specs.List.{sum_by}
use Rattle.mont_base.specs.declared.record.Object.{Object}
use Rattle.mont_base.specs.Image.{IsRecovered, IsWellFormed, clock_of}
use Rattle.mont_base.specs.Layout.{units_of}
use Rattle.mont_base.specs.State.{State}
use Rattle.mont_base.specs.Versions.{live_objects}
use Rattle.plain.specs.States.{states_of}
use Rattle.core_steps.specs.declared.parts.AdvPart.TheVariants.{Rest}
use Rattle.core_steps.specs.Opened.{slots_beyond}
use Rattle.core_steps.specs.Places.{EachAt}
use Rattle.heap_rule.specs.Views.{full_rest}
use Rattle.heap.specs.HeapShown.{HeapShown, AdvShown, CallerShown}
use Rattle.slots.specs.Books.{RegionShown}
use Rattle.found_regions.specs.FoundRegion.{IsRegionFound, IsRegionSwept, records_found}
use Rattle.recover.specs.FoundTicket.{IsTicketFound, knows_all}
use Rattle.recover.specs.declared.store_parts.Parts.{Parts}

-- ---- lost slots
-- how many slots that are open beyond the cut aren't closed yet
abbrev pub lost_in : List RegionShown → ℕ
lost_in regions = sum_by (λ (r : RegionShown). length r.books.lost) regions

-- the region of a unit when the store is opened: all its slots beyond the cut are open
pub record IsRegionOpened (heap : HeapShown) (u : ℕ) (r : RegionShown) : Type 0 where
  pub found : IsRegionFound heap u r
  pub unswept : r.books.lost ≡ slots_beyond heap.opening.layout heap.opening.words u

-- ---- objects: of each unit the live ones of its records
abbrev pub AreLiveObjects : HeapShown → ℕ → List Object → Type 0
AreLiveObjects heap u objects = objects ≡ live_objects (records_found heap u)

-- ---- the advancer: no advance was begun
pub record IsAdvancerFound (heap : HeapShown) (a : AdvShown) : Type 0 where
  pub table : a.table ≡ heap.table
  pub part : a.known.part ≡ Rest
  pub turn : a.known.turn ≡ full_rest
  pub clock : a.known.clock ≡ clock_of heap.opening.words
  pub durable : a.known.durable ≡ clock_of heap.opening.words
  pub units : a.known.units ≡ units_of heap.opening.layout
  pub room : a.known.room ≡ heap.opening.layout.slots
  pub lists : length a.known.lists ≡ a.known.units

-- ---- the whole
pub record RecoveredShown : Type 0 where
  pub heap : HeapShown
  pub regions : List RegionShown
  pub tickets : List CallerShown
  pub advancer : AdvShown
  pub swept : Bool

-- no slot beyond the cut is open, and every part knows it
pub record AreSwept (heap : HeapShown) (regions : List RegionShown) (advancer : AdvShown)
    : Type 0 where
  pub each_unit : All (IsRegionSwept heap) regions
  pub known : knows_all heap advancer.known.clean

-- Recovery accepts the words with which the store was opened. They have this clock, these states
-- are recovered from them, and these are the live objects of its units.
pub record IsRecovery
    (clock : ℕ) (states : List State) (live : List (List Object)) (x : RecoveredShown)
    : Type 0 where
  pub accepted : IsWellFormed x.heap.opening.layout x.heap.opening.words
  pub base : IsRecovered x.heap.opening.layout x.heap.opening.words states
  pub clock_is : clock ≡ clock_of x.heap.opening.words
  pub object_count : length live ≡ units_of x.heap.opening.layout
  pub objects : EachAt (AreLiveObjects x.heap) live
  pub unit_count : length x.regions ≡ units_of x.heap.opening.layout
  pub regions : EachAt (IsRegionFound x.heap) x.regions
  pub some_callers : 1 ≤ x.heap.opening.callers
  pub caller_count : length x.tickets ≡ x.heap.opening.callers
  pub tickets : EachAt (IsTicketFound x.heap) x.tickets
  pub advancer : IsAdvancerFound x.heap x.advancer
  pub swept : x.swept ≡ true → AreSwept x.heap x.regions x.advancer

-- ---- the parts of the store by themselves
pub record ArePartsOf (x : RecoveredShown) (p : Parts) : Type 0 where
  pub layout : p.layout ≡ x.heap.opening.layout
  pub heap : p.heap ≡ x.heap
  pub regions : p.regions.items ≡ x.regions
  pub tickets : p.tickets.items ≡ x.tickets
  pub advancer : p.advancer ≡ x.advancer
  pub recovery : IsRecovery p.clock (states_of p.contents) (map (λ v. v.items) p.objects.items) x
