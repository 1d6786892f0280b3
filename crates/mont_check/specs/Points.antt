-- The points of a unit's history: what is known of the slots after each number of its entries.
use Rattle.std.specs.Prelude.{◌≡◌, ℕ, ◌+◌, ◌<◌, ◌≤◌, max, List, length, take, slice_get, AllPairs, Some}
use Rattle.std.specs.List.Sorted.{IsNonDecreasingBy}
use Rattle.mont_base.specs.declared.operation.Entry.{Entry}
use Rattle.mont_base.specs.Room.{retired_late}
use Rattle.mont_base.specs.History.{state_after}
use Rattle.mont_base.specs.State.{State, size_of}
use Rattle.mont_check.specs.declared.points.Point.{Point}
use Rattle.mont_check.specs.Walk.{Facts}

-- epochs never fall from entry to entry
abbrev pub EpochsRise : List Entry → Type 0
EpochsRise h = AllPairs (λ (d e : Entry). d.epoch ≤ e.epoch) h

-- ---- the points of a history
-- how many slots these entries retired
abbrev pub retired_by : State → List Entry → ℕ
retired_by base h = retired_late 0 base h

-- what is noted of the point after these entries
pub record TellsPoint (base : State) (h : List Entry) (p : Point) : Type 0 where
  pub retired : p.retired ≡ retired_by base h
  pub live : size_of (state_after base h) ≤ p.live
  pub taken : size_of (state_after base h) + retired_by base h ≤ p.taken

-- the most that were live or taken until a point never falls
pub record PointsRise (points : List Point) : Type 0 where
  pub live : IsNonDecreasingBy (λ (p : Point). p.live) points
  pub taken : IsNonDecreasingBy (λ (p : Point). p.taken) points

-- these are the points of a history, from that before its first entry to that after its last
pub record ArePoints (base : State) (h : List Entry) (points : List Point) : Type 0 where
  pub as_many : length points ≡ length h + 1
  pub each :
      (n : ℕ) (p : Point) → slice_get points n ≡ Some p → TellsPoint base (take n h) p
  pub rise : PointsRise points

-- so few slots are in use at each earlier point, where so many retired ones are closed
abbrev pub UsesFewer : List Point → ℕ → ℕ → ℕ → Type 0
UsesFewer points used closed start =
    (n : ℕ) (p : Point) → n < start → slice_get points n ≡ Some p
    → (p.live < used) × (p.taken < used + closed)

-- the point at which this is true of the unit, where so many were live and taken before
pub record IsNextPoint (f : Facts) (most_live most_taken : ℕ) (p : Point) : Type 0 where
  pub retired : p.retired ≡ f.waiting
  pub live : p.live ≡ max most_live (size_of f.state)
  pub taken : p.taken ≡ max most_taken (size_of f.state + f.waiting)

-- the clock is two past the epochs of so many entries, which are the first ones
pub record AreSettled (h : List Entry) (clock count : ℕ) : Type 0 where
  pub there : count ≤ length h
  pub before : (n : ℕ) (e : Entry) → n < count → slice_get h n ≡ Some e → e.epoch + 2 ≤ clock
  pub behind : (n : ℕ) (e : Entry) → count ≤ n → slice_get h n ≡ Some e → clock < e.epoch + 2

-- so many slots were retired by the entries that are settled at the clock, and are closed
pub record IsClosed (h : List Entry) (points : List Point) (clock closed : ℕ) : Type 0 where
  pub count : ℕ
  pub settled : AreSettled h clock count
  pub retired : (p : Point) → slice_get points count ≡ Some p → closed ≡ p.retired
