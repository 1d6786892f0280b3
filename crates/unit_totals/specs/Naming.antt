-- Receipts that name the entries of histories, each once.
use Rattle.std.specs.Prelude.{◌≡◌, ℕ, List, All, sum_by, count_by}
use Rattle.std.specs.List.{flat_map}
use Rattle.mont_base.specs.declared.operation.Entry.{Entry}
use Rattle.mont_base.specs.declared.operation.Receipt.{Receipt}
use Rattle.mont_base.specs.Seen.{IsCallersOrder, IsEntryAt, View, names_place}

pub record NameEachOnce (histories : List (List Entry)) (receipts : List Receipt) : Type 0 where
  pub there : All (λ (r : Receipt). IsEntryAt histories r.unit r.place r.entry) receipts
  pub once :
      (unit place : ℕ) (e : Entry) → IsEntryAt histories unit place e
      → count_by (names_place unit place) receipts ≡ 1

-- the receipts of all callers in one list
abbrev pub all_receipts : List (List Receipt) → List Receipt
all_receipts rows = flat_map (λ (row : List Receipt). row) rows

abbrev pub CallersNameEachOnce : Type 0
CallersNameEachOnce =
    (histories : List (List Entry)) (rows : List (List Receipt)) (views : List View)
    → IsCallersOrder histories rows views → NameEachOnce histories (all_receipts rows)

-- what is counted of each entry is counted of the receipts
abbrev pub EachOnceSumsUp : Type 0
EachOnceSumsUp =
    (count : Entry → ℕ) (histories : List (List Entry)) (receipts : List Receipt)
    → NameEachOnce histories receipts
    → sum_by (λ (r : Receipt). count r.entry) receipts
    ≡ sum_by (λ (h : List Entry). sum_by count h) histories
