-- What is true of the callers: what each was answered and has seen, and who was cut.
use Rattle.std.specs.Prelude.{◌≡◌, ℕ, ◌+◌, ◌<◌, ◌≤◌, List, length, take, All, AllPairs, slice_get, Option, Some}
use Rattle.std.specs.List.{Contains}
use Rattle.mont_base.specs.declared.operation.Entry.{Entry}
use Rattle.mont_base.specs.declared.operation.Receipt.{Receipt}
use Rattle.mont_base.specs.Seen.{View, FitsHistories, IsEntryAt, IsReceiptOf, IsInOrder}
use Rattle.core_steps.specs.declared.parts.CallerPart.{CallerPart}
use Rattle.core_steps.specs.Places.{EachAt, RowHas}
use Rattle.core_steps.specs.Notes.{IsTrueMark}

abbrev pub receipts_of : CallerPart → List Receipt
receipts_of q = q.receipts

abbrev pub view_of : CallerPart → View
view_of q = record { fronts = q.fronts; newest = q.newest }

-- the caller has seen the entry that it was answered
pub record IsBehind (q : CallerPart) (r : Receipt) : Type 0 where
  pub front : RowHas (slice_get q.fronts r.unit) (λ n. r.place < n)
  pub newest : r.entry.epoch ≤ q.newest

-- what the caller knows to be durable: entries that it has seen, of epochs that are in every cut
pub record IsSynced (histories : List (List Entry)) (q : CallerPart) : Type 0 where
  pub units : length q.synced ≡ length histories
  pub seen : (u n m : ℕ) → slice_get q.synced u ≡ Some n → slice_get q.fronts u ≡ Some m → n ≤ m
  pub durable : (u n : ℕ) (h : List Entry) → slice_get q.synced u ≡ Some n
      → slice_get histories u ≡ Some h → All (λ (e : Entry). e.epoch + 2 ≤ q.durable) (take n h)

-- Caller k, where these are the histories and the cut callers of the units, and the clock shows
-- now.
pub record CallerFits
    (histories : List (List Entry)) (cuts : List (Option ℕ)) (now k : ℕ) (q : CallerPart)
    : Type 0 where
  pub calls : q.calls ≡ length q.receipts
  pub receipts : EachAt (IsReceiptOf histories k) q.receipts
  pub order : AllPairs IsInOrder q.receipts
  pub behind : All (IsBehind q) q.receipts
  pub seen : FitsHistories histories (view_of q)
  pub reached : q.newest ≤ now
  pub synced : IsSynced histories q
  pub cut_in : All (λ u. u < length histories) q.cuts
  pub marks : All (IsTrueMark cuts) q.marks

-- the receipt of an entry is the one of its caller's call
pub record HasReceipt (u place : ℕ) (e : Entry) (r : Receipt) : Type 0 where
  pub of_unit : r.unit ≡ u
  pub at_place : r.place ≡ place

abbrev pub IsNamed : List CallerPart → ℕ → ℕ → Entry → Type 0
IsNamed callers u place e =
    RowHas (slice_get callers e.caller)
    (λ q. RowHas (slice_get q.receipts e.call) (HasReceipt u place e))

-- the unit is one in which a caller was cut
abbrev pub IsCut : List (Option ℕ) → ℕ → Type 0
IsCut cuts u = (k : ℕ) × (slice_get cuts u ≡ Some (Some k))

pub record CallersFit
    (histories : List (List Entry)) (cuts : List (Option ℕ)) (now : ℕ) (callers : List CallerPart)
    (odd : List ℕ) : Type 0 where
  pub each : EachAt (CallerFits histories cuts now) callers
  -- each entry is that of a receipt
  pub named : (u place : ℕ) (e : Entry) → IsEntryAt histories u place e → IsNamed callers u place e
  -- a caller that was cut in a unit knows it
  pub cut : (u k : ℕ) → slice_get cuts u ≡ Some (Some k)
      → RowHas (slice_get callers k) (λ q. Contains q.cuts u)
  -- and so was one in each unit whose announcement the advancer has loaded odd
  pub loaded_odd : All (IsCut cuts) odd
