-- What a store promises when it is stopped, however its threads took turns and wherever each of
-- them was cut. The answered calls make one legal history for each unit: each call once, in the
-- order that its caller had seen. And every image that a crash then permits holds one cut of all
-- histories: the operations up to two epochs before its clock, whole, with all that a caller knew
-- to be durable.
use Rattle.std.specs.Prelude.{◌≡◌, ◌↔◌, ℕ, ◌+◌, ◌<◌, ◌≤◌, List, [], ◌∷◌, length, map, take, slice_get, Some, All}
use Rattle.std.specs.List.{Contains}
use Rattle.mont_base.specs.declared.constants.TheConstants.{LAST}
use Rattle.mont_base.specs.declared.memory.Words.{Words}
use Rattle.mont_base.specs.declared.operation.Entry.{Entry}
use Rattle.mont_base.specs.declared.operation.Receipt.{Receipt}
use Rattle.mont_base.specs.History.{IsLegal, state_after, cut_at}
use Rattle.mont_base.specs.Image.{IsPermitted, IsRecovered, IsWellFormed, clock_of, cut_of}
use Rattle.mont_base.specs.Layout.{Shape, units_of, words_of}
use Rattle.mont_base.specs.Seen.{IsCallersOrder}
use Rattle.mont_base.specs.State.{State}
use Rattle.plain.specs.declared.contents.Contents.{Contents}
use Rattle.plain.specs.States.{states_of}
use Rattle.core_steps.specs.declared.parts.CallerPart.{CallerPart}
use Rattle.core_steps.specs.declared.parts.Mark.{Mark}
use Rattle.core_steps.specs.CallerClauses.{receipts_of, view_of}
use Rattle.core_steps.specs.Notes.{NamesCaller, BeginsWith}
use Rattle.core_steps.specs.Places.{RowHas}
use Rattle.heap_rule.specs.declared.rule.Opening.{Opening}
use Rattle.heap_rule.specs.declared.views.CallerKnown.{CallerKnown}
use Rattle.heap_rule.specs.declared.views.LeftWithin.{LeftWithin}
use Rattle.heap.specs.HeapShown.{CallerShown}
use Rattle.store_stop.specs.declared.headline.Stopped.{Stopped}

-- ---- what the store opened with
-- the clock of its words, and what recovery rebuilds from them
pub record IsBaseOf (o : Opening) (clock : ℕ) (states : List State) : Type 0 where
  pub clock_is : clock ≡ clock_of o.words
  pub recovered : IsRecovered o.layout o.words states

-- ---- histories
-- There is one for each unit, legal from what the unit held when the store was opened.
pub record AreLegal
    (s : Shape) (clock : ℕ) (base : List State) (histories : List (List Entry)) : Type 0 where
  pub based : length base ≡ units_of s
  pub units : length histories ≡ units_of s
  pub each :
      (unit : ℕ) (state : State) (h : List Entry) → slice_get base unit ≡ Some state
      → slice_get histories unit ≡ Some h → IsLegal s unit state clock h

-- The entries that a caller has seen of each unit are those before its front there.
pub record HasSeen (histories : List (List Entry)) (q : CallerKnown) : Type 0 where
  pub units : length q.entries ≡ length histories
  pub each :
      (unit front : ℕ) (h : List Entry) → slice_get q.part.fronts unit ≡ Some front
      → slice_get histories unit ≡ Some h → slice_get q.entries unit ≡ Some (take front h)

-- ---- clocks
-- No durable clock that a caller has learnt is above the durable one, which isn't below the base.
pub record AreClocks (base : ℕ) (callers : List CallerPart) (now durable : ℕ) : Type 0 where
  pub begun : base ≤ durable
  pub learnt : All (λ (q : CallerPart). q.durable ≤ durable) callers
  pub behind : durable ≤ now
  pub last : now ≤ LAST

-- No entry is of an epoch that the clock hasn't reached.
abbrev pub AreEpochsReached : ℕ → List (List Entry) → Type 0
AreEpochsReached now histories =
    All (λ (h : List Entry). All (λ (e : Entry). e.epoch ≤ now) h) histories

-- The clock is at most one past an epoch within which a unit was left halted. So no image that a
-- crash permits has a cut that this epoch is in.
abbrev pub IsHeldBack : ℕ → LeftWithin → Type 0
IsHeldBack now w = now ≤ w.epoch + 1

-- ---- marks
-- The caller that a mark names was cut in its unit, and knows it; where it names none, some caller
-- was.
pub record IsCutAsMarked (callers : List CallerPart) (m : Mark) : Type 0 where
  pub by : ℕ
  pub named : NamesCaller m.by by
  pub cut : RowHas (slice_get callers by) (λ (q : CallerPart). Contains q.cuts m.unit)

-- ---- words
-- Each word of the layout has a current and a durable value.
pub record AreAllWords (s : Shape) (words : Words) : Type 0 where
  pub current : length words.cur ≡ words_of s
  pub durable : length words.dur ≡ words_of s

-- ---- images
-- the states that the entries up to an epoch lead to, unit by unit
abbrev pub cut_states : ℕ → List State → List (List Entry) → List State
cut_states x [] histories = []
cut_states x (state ∷ base) [] = []
cut_states x (state ∷ base) (h ∷ histories) =
    state_after state (cut_at x h) ∷ cut_states x base histories

-- the entries before a caller's synced fronts are within a cut
abbrev pub IsSyncedIn : List (List Entry) → ℕ → CallerPart → Type 0
IsSyncedIn histories x q =
    (unit front : ℕ) (h : List Entry) → slice_get q.synced unit ≡ Some front
    → slice_get histories unit ≡ Some h → All (λ (e : Entry). e.epoch ≤ x) (take front h)

-- Recovery accepts the image, and rebuilds from it exactly the states to which the entries up to
-- two epochs before its clock lead: these, and no others. What a caller knew to be durable is among
-- these entries. The image's clock is one that the store had.
pub record HoldsHistories
    (s : Shape) (base : List State) (histories : List (List Entry)) (callers : List CallerPart)
    (words : Words) (image : List ℕ) : Type 0 where
  pub accepted : IsWellFormed s image
  pub rebuilt :
      (states : List State)
      → IsRecovered s image states ↔ (states ≡ cut_states (cut_of image) base histories)
  pub synced : All (IsSyncedIn histories (cut_of image)) callers
  pub not_before : clock_of words.dur ≤ clock_of image
  pub not_behind : clock_of image ≤ clock_of words.cur

-- ---- the whole store
-- what the tickets of the callers show
abbrev pub parts_shown : List CallerShown → List CallerPart
parts_shown callers = map (λ (s : CallerShown). s.known.part) callers

-- The store was opened with this layout, clock and contents, and its callers' tickets showed this
-- when it was stopped.
pub record IsStopped
    (s : Shape) (clock : ℕ) (base : Contents) (callers : List CallerShown) (t : Stopped)
    : Type 0 where
  pub layout : t.words.layout ≡ s
  pub words : AreAllWords s t.words
  pub base_clock : t.base_clock ≡ clock
  pub base_is : t.base ≡ base
  pub legal : AreLegal s clock (states_of base) t.histories
  -- each answered call is one entry, each entry one call; a caller's stand in the order that it saw
  pub order : IsCallersOrder t.histories
      (map receipts_of (parts_shown callers)) (map view_of (parts_shown callers))
  pub seen : All (λ (q : CallerShown). HasSeen t.histories q.known) callers
  pub clocks : AreClocks clock (parts_shown callers) (clock_of t.words.cur) (clock_of t.words.dur)
  pub reached : AreEpochsReached (clock_of t.words.cur) t.histories
  pub held_back :
      All (λ (q : CallerShown). All (IsHeldBack (clock_of t.words.cur)) q.known.within) callers
  pub marks : All (λ (q : CallerPart). All (IsCutAsMarked (parts_shown callers)) q.marks)
      (parts_shown callers)
  pub images :
      (image : List ℕ) → IsPermitted t.words.cur t.words.dur image
      → HoldsHistories s (states_of base) t.histories (parts_shown callers) t.words image

-- ---- the headline in one type
-- an answered call that its caller knew to be durable: its entry stands before the synced front
abbrev pub IsKnownDurable : CallerPart → Receipt → Type 0
IsKnownDurable q r = RowHas (slice_get q.synced r.unit) (λ front. r.place < front)

-- the entry of a receipt is among those of its unit up to an epoch
abbrev pub IsInCut : List (List Entry) → ℕ → Receipt → Type 0
IsInCut histories x r =
    RowHas (slice_get histories r.unit) (λ (h : List Entry). Contains (cut_at x h) r.entry)

-- A unit was rebuilt with the state to which the front of its legal history up to an epoch leads.
pub record IsRebuilt
    (s : Shape) (clock x unit : ℕ) (opened : State) (h : List Entry) (rebuilt : State)
    : Type 0 where
  pub legal : IsLegal s unit opened clock h
  pub front : BeginsWith h (cut_at x h)
  pub leads : rebuilt ≡ state_after opened (cut_at x h)

-- So was each unit, all up to the same epoch, and each call that its caller knew to be durable is
-- there.
pub record OutlivesCrash
    (s : Shape) (clock x : ℕ) (base : List State) (histories : List (List Entry))
    (callers : List CallerPart) (states : List State) : Type 0 where
  pub units : length states ≡ units_of s
  pub rebuilt :
      (unit : ℕ) (opened : State) (h : List Entry) (state : State)
      → slice_get base unit ≡ Some opened → slice_get histories unit ≡ Some h
      → slice_get states unit ≡ Some state → IsRebuilt s clock x unit opened h state
  pub known :
      (caller call : ℕ) (q : CallerPart) (r : Receipt) → slice_get callers caller ≡ Some q
      → slice_get q.receipts call ≡ Some r → IsKnownDurable q r → IsInCut histories x r

-- whatever recovery rebuilds from an image that a crash permits of a stopped store
abbrev pub StoppedStoresOutliveCrashes : Type 0
StoppedStoresOutliveCrashes =
    (s : Shape) (clock : ℕ) (base : Contents) (callers : List CallerShown) (t : Stopped)
    (image : List ℕ) (states : List State)
    → IsStopped s clock base callers t → IsPermitted t.words.cur t.words.dur image
    → IsRecovered s image states
    → OutlivesCrash s clock (cut_of image) (states_of base) t.histories (parts_shown callers)
    states
