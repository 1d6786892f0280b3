-- What callers have seen, kept in memory, and the parts of their order.
use Rattle.std.specs.Prelude.{◌≡◌, ℕ, ◌<◌, List, length, AllPairs, sum_by, count_by, slice_get, Some}
use Rattle.mont_base.specs.declared.operation.Entry.{Entry}
use Rattle.mont_base.specs.declared.operation.Receipt.{Receipt}
use Rattle.mont_base.specs.Seen as seen
use Rattle.plain.specs.declared.view.View.{View}

abbrev pub view_of : View → seen.View
view_of v = record { fronts = v.fronts; newest = v.newest }

-- these are the receipts of a caller's calls
abbrev pub AreReceiptsOf : List (List Entry) → ℕ → List Receipt → Type 0
AreReceiptsOf histories caller rs =
    (call : ℕ) (r : Receipt) → slice_get rs call ≡ Some r → seen.IsReceiptOf histories caller call r

-- so are those of each caller
abbrev pub AreReceipts : List (List Entry) → List (List Receipt) → Type 0
AreReceipts histories receipts =
    (caller : ℕ) (rs : List Receipt)
    → slice_get receipts caller ≡ Some rs → AreReceiptsOf histories caller rs

-- each caller's stand in its order
abbrev pub AreInOrder : List (List Receipt) → Type 0
AreInOrder receipts =
    (caller : ℕ) (rs : List Receipt)
    → slice_get receipts caller ≡ Some rs → AllPairs seen.IsInOrder rs

-- how many receipts name a place
abbrev pub named : ℕ → ℕ → List (List Receipt) → ℕ
named unit place receipts = sum_by (λ rs. count_by (seen.names_place unit place) rs) receipts

-- each of the first places of a unit is named once
abbrev pub ArePlacesNamed : List (List Receipt) → ℕ → ℕ → Type 0
ArePlacesNamed receipts unit places = (place : ℕ) → place < places → named unit place receipts ≡ 1

-- so is each place that the histories have
abbrev pub AreNamedOnce : List (List Entry) → List (List Receipt) → Type 0
AreNamedOnce histories receipts =
    (unit : ℕ) (h : List Entry)
    → slice_get histories unit ≡ Some h → ArePlacesNamed receipts unit (length h)

-- the receipts name the entries of the histories, each once, and stand in order
pub record TellsHistories (histories : List (List Entry)) (receipts : List (List Receipt))
    : Type 0 where
  pub called : AreReceipts histories receipts
  pub order : AreInOrder receipts
  pub once : AreNamedOnce histories receipts
