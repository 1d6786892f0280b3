-- What a caller has seen of the histories, and the order of the callers' answers.
use Rattle.std.specs.Prelude.{◌≡◌, ℕ, ◌+◌, ◌<◌, ◌≤◌, Bool, ◌&&◌, ◌==◌, List, length, take, All, AllPairs, sum_by, count_by, slice_get, slice_set, Some}
use Rattle.mont_base.specs.declared.operation.Entry.{Entry}
use Rattle.mont_base.specs.declared.operation.Receipt.{Receipt}

-- what the lists hold at a place
abbrev pub IsEntryAt : List (List Entry) → ℕ → ℕ → Entry → Type 0
IsEntryAt histories unit place e =
    (h : List Entry) × (slice_get histories unit ≡ Some h) × (slice_get h place ≡ Some e)

-- Of each unit a front, which is a number of its entries, and an epoch that none before a front is
-- above.
pub record View : Type 0 where
  pub fronts : List ℕ
  pub newest : ℕ

pub record FrontFits (newest front : ℕ) (h : List Entry) : Type 0 where
  pub there : front ≤ length h
  pub epochs : All (λ (e : Entry). e.epoch ≤ newest) (take front h)

-- what was seen is there
pub record FitsHistories (histories : List (List Entry)) (view : View) : Type 0 where
  pub units : length view.fronts ≡ length histories
  pub each :
      (unit front : ℕ) (h : List Entry) → slice_get view.fronts unit ≡ Some front
      → slice_get histories unit ≡ Some h → FrontFits view.newest front h

-- An answer comes after all that its caller had seen, and the caller has then seen it.
pub record ContinuesView (old new : View) (r : Receipt) : Type 0 where
  pub behind : (front : ℕ) → slice_get old.fronts r.unit ≡ Some front → front ≤ r.place
  pub later : old.newest ≤ r.entry.epoch
  pub fronts : new.fronts ≡ slice_set old.fronts r.unit (r.place + 1)
  pub newest : new.newest ≡ r.entry.epoch

-- an earlier and a later receipt of one caller
pub record IsInOrder (r q : Receipt) : Type 0 where
  pub epochs : r.entry.epoch ≤ q.entry.epoch
  pub places : r.unit ≡ q.unit → r.place < q.place

-- the receipt of a caller's call, by its number
pub record IsReceiptOf
    (histories : List (List Entry)) (caller call : ℕ) (r : Receipt) : Type 0 where
  pub by : r.entry.caller ≡ caller
  pub number : r.entry.call ≡ call
  pub there : IsEntryAt histories r.unit r.place r.entry

abbrev pub names_place : ℕ → ℕ → Receipt → Bool
names_place unit place r = (r.unit == unit) && (r.place == place)

-- The receipts of all callers name the entries of the histories, each once, and each caller's stand
-- in its order.
pub record IsCallersOrder
    (histories : List (List Entry)) (receipts : List (List Receipt)) (views : List View)
    : Type 0 where
  pub receipt :
      (caller call : ℕ) (rs : List Receipt) (r : Receipt) → slice_get receipts caller ≡ Some rs
      → slice_get rs call ≡ Some r → IsReceiptOf histories caller call r
  pub order :
      (caller : ℕ) (rs : List Receipt) → slice_get receipts caller ≡ Some rs → AllPairs IsInOrder rs
  pub named_once :
      (unit place : ℕ) (e : Entry) → IsEntryAt histories unit place e
      → sum_by (λ rs. count_by (names_place unit place) rs) receipts ≡ 1
  pub callers : length views ≡ length receipts
  pub fit : All (FitsHistories histories) views
