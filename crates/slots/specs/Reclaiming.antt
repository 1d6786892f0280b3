-- How a region closes the slots that a durable clock lets be closed.
use Rattle.std.specs.Prelude.{◌≡◌, ℕ, ◌+◌, ◌⊎◌, nat_le, Bool, List, [], ◌∷◌, ◌++◌, map, max, Option, Some, None, if◌then◌else◌}
use Rattle.std.specs.List.{take_while}
use Rattle.mont_laws.specs.declared.retiring.Retired.{Retired}
use Rattle.mont_laws.specs.Records.{live_of}
use Rattle.heap_rule.specs.declared.views.UnitKnown.{UnitKnown}
use Rattle.heap.specs.HeapShown.{HeapShown}
use Rattle.heap_rule.specs.SoundUnits.{IsSoundUnit}
use Rattle.heap_rule.specs.Plays.{IsDurable}
use Rattle.heap_rule.specs.Views.{unit_closed, unit_persisted, unit_loaded_durable}
use Rattle.slots.specs.Books.{RegionShown, BooksShown, books_showing}

abbrev pub is_due : ℕ → Retired → Bool
is_due clock t = nat_le (t.epoch + 2) clock

-- those from the front of the queue
abbrev pub due_at : ℕ → List Retired → List Retired
due_at clock retired = take_while (is_due clock) retired

-- each of these, the first retired ones, was closed, and then durably so
abbrev pub unit_emptied : UnitKnown → List Retired → UnitKnown
unit_emptied h [] = h
unit_emptied h (t ∷ ts) = unit_emptied (unit_persisted (unit_closed h t.slot) t.slot) ts

-- closed slots go to the back of the free ones
abbrev pub books_emptied : RegionShown → BooksShown → List Retired → BooksShown
books_emptied new b closed =
    record (books_showing b new.seat.known.part) {
      free = b.free ++ map (λ (t : Retired). t.slot) closed;
    }

pub record HasClosed (old new : RegionShown) (clock : ℕ) (closed : List Retired) : Type 0 where
  pub seat_is : new.seat
      ≡ record old.seat { known = unit_emptied (unit_loaded_durable old.seat.known clock) closed }
  pub books_are : new.books ≡ books_emptied new old.books closed
  pub queue_is : old.books.retired ≡ closed ++ new.books.retired
  -- all else of the unit is as it was
  pub others_are : new.seat.known ≡ record old.seat.known {
    part = new.seat.known.part;
    steps = new.seat.known.steps;
    loaded = clock;
    clean = new.seat.known.clean;
  }
  pub part_is : new.seat.known.part ≡ record old.seat.known.part {
    durable = clock;
    records = new.seat.known.part.records;
    retired = new.seat.known.part.retired;
  }

-- the first of them
abbrev pub first_closed : RegionShown → ℕ → RegionShown
first_closed r slot =
    let h : UnitKnown = unit_persisted (unit_closed r.seat.known slot) slot in record {
      seat = record r.seat { known = h };
      books = record (books_showing r.books h.part) { free = r.books.free ++ slot ∷ [] };
    }

abbrev pub first_due : ℕ → List Retired → Option ℕ
first_due clock [] = None
first_due clock (t ∷ ts) = if is_due clock t then Some t.slot else None

-- what the invariant tells of the unit, when the clocks showed what they did
abbrev pub IsSound : HeapShown → RegionShown → Type 0
IsSound heap r = (now : ℕ) × ((durable : ℕ) × IsSoundUnit heap.opening now durable r.seat.known)

-- no identity's live record is another one
abbrev pub KeepsLive : RegionShown → RegionShown → Type 0
KeepsLive old new = (identity : ℕ)
    → live_of identity new.seat.known.part.records ≡ live_of identity old.seat.known.part.records

-- ---- where it was cut
-- some were closed, and the next one may be closed, but not yet durably
abbrev pub IsClosing : UnitKnown → UnitKnown → List Retired → Type 0
IsClosing h now [] = ⊥
IsClosing h now (t ∷ ts) = now ≡ unit_closed h t.slot

-- before or between the two steps that close the first slot
pub record WasCutClosingFirst (old new : RegionShown) (slot : ℕ) : Type 0 where
  pub books_are : new.books ≡ old.books
  pub table_is : new.seat.table ≡ old.seat.table
  pub held_is : (new.seat.known ≡ old.seat.known) ⊎
      (new.seat.known ≡ unit_closed old.seat.known slot)

pub record WasCutClosing (old new : RegionShown) : Type 0 where
  pub clock : ℕ
  pub found : IsDurable
      (max old.seat.known.part.durable old.seat.known.learnt.durable) clock
  pub closed : List Retired
  pub left : List Retired
  pub due : due_at clock old.books.retired ≡ closed ++ left
  pub table_is : new.seat.table ≡ old.seat.table
  pub books_are : new.books ≡ books_emptied new old.books closed
  pub held_is : let h : UnitKnown =
      unit_emptied (unit_loaded_durable old.seat.known clock) closed in
      (new.seat.known ≡ h) ⊎ IsClosing h new.seat.known left

abbrev pub WasCutReclaiming : RegionShown → RegionShown → Type 0
WasCutReclaiming old new = (new ≡ old) ⊎ WasCutClosing old new
