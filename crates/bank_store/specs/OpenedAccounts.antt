-- What the opening of the accounts leaves of its caller.
use Rattle.std.specs.Prelude.{◌≡◌, ℕ, ◌+◌, ◌<◌, ◌≤◌, ◌⊎◌, Bool, true, false, List, [], ◌∷◌, ◌++◌, length, option_to_list, Option, Some, None, IsSome, All}
use Rattle.std.specs.List.{flat_map}
use Rattle.mont_base.specs.declared.constants.TheConstants.{LAST}
use Rattle.mont_base.specs.declared.operation.Op.{Op}
use Rattle.mont_base.specs.declared.operation.Receipt.{Receipt}
use Rattle.mont_base.specs.declared.refusal.CallRefusal.{CallRefusal}
use Rattle.mont_base.specs.declared.refusal.CallRefusal.TheVariants.{Memory, Cut}
use Rattle.mont_base.specs.State.{unit_of_op}
use Rattle.heap_rule.specs.declared.views.CallerKnown.{CallerKnown}
use Rattle.heap.specs.HeapShown.{HeapShown, CallerShown}
use Rattle.caller.specs.Continued.{GoesOn}
use Rattle.caller.specs.Telling.{has_mark}
use Rattle.store.specs.StoreCalls.{ContinuesCaller, IsRefused, KeepsCaller}
use Rattle.bank_job.specs.Bank.{bank_layout, first_puts}
use Rattle.bank_store.specs.MadeShifts.{HasSeenPlace, OfItsStore}

-- each is an operation of a unit of the bank
abbrev pub AreOfUnits : List Op → Type 0
AreOfUnits puts = All (λ (op : Op). IsSome (unit_of_op bank_layout op)) puts

-- ---- one put
-- a refusal for which a put is passed over
abbrev pub is_left_out : CallRefusal → Bool
is_left_out Memory = false
is_left_out (Cut unit) = false
is_left_out why = true

pub record IsLeftOut (heap : HeapShown) (q r : CallerShown) (op : Op) : Type 0 where
  pub why : CallRefusal
  pub left_out : is_left_out why ≡ true
  pub keeps : KeepsCaller q r
  pub tells : OfItsStore heap (λ store. IsRefused store q r op why)

abbrev pub PutComesTo :
    HeapShown → CallerShown → CallerShown → Op → Option Receipt → Type 0
PutComesTo heap q r op (Some receipt) =
    OfItsStore heap (λ store. ContinuesCaller store q r op receipt)
PutComesTo heap q r op None = IsLeftOut heap q r op

abbrev pub HasMadePut : HeapShown → CallerShown → CallerShown → Op → Type 0
HasMadePut heap q r op = (end : Option Receipt) × PutComesTo heap q r op end

-- ---- puts that were made between two states of a caller
pub record WasLeftOut (heap : HeapShown) (first last : CallerShown) (op : Op) : Type 0 where
  pub before : CallerShown
  pub behind : CallerShown
  pub over : IsLeftOut heap before behind op
  pub goes_on : GoesOn behind.known last.known
  pub calls : before.known.part.calls ≤ last.known.part.calls

abbrev pub PutEnds : HeapShown → CallerShown → CallerShown → Op → Option Receipt → Type 0
PutEnds heap first last op (Some receipt) = receipt.entry.op ≡ op
PutEnds heap first last op None = WasLeftOut heap first last op

abbrev pub PutsEnd :
    HeapShown → CallerShown → CallerShown → List Op → List (Option Receipt) → Type 0
PutsEnd heap first last [] [] = Unit {0}
PutsEnd heap first last (op ∷ ops) (end ∷ ends) =
    PutEnds heap first last op end × PutsEnd heap first last ops ends
PutsEnd heap first last _ _ = ⊥

abbrev pub puts_given : List (Option Receipt) → List Receipt
puts_given ends = flat_map option_to_list ends

pub record HaveComeTo
    (heap : HeapShown) (q r : CallerShown) (puts : List Op) (ends : List (Option Receipt))
    : Type 0 where
  pub table : r.table ≡ q.table
  pub goes_on : GoesOn q.known r.known
  pub cuts : r.known.part.cuts ≡ q.known.part.cuts
  pub calls : r.known.part.calls ≡ q.known.part.calls + length (puts_given ends)
  pub receipts : r.known.part.receipts ≡ q.known.part.receipts ++ puts_given ends
  pub seen : All (HasSeenPlace r.known) (puts_given ends)
  pub epochs : All (λ (x : Receipt). x.entry.epoch ≤ r.known.part.newest) (puts_given ends)
  pub units : All (λ (x : Receipt). x.unit < 6) (puts_given ends)
  pub each : PutsEnd heap q r puts ends

abbrev pub HasMadePuts : HeapShown → CallerShown → CallerShown → List Op → Type 0
HasMadePuts heap q r puts = (ends : List (Option Receipt)) × HaveComeTo heap q r puts ends

-- ---- the opening
-- All that the caller has seen is durable. If not, the clock is the last one, or somebody was cut.
abbrev pub IsSettled : CallerKnown → Type 0
IsSettled r =
    (r.part.newest + 2 ≤ r.part.durable)
    ⊎ ((r.part.durable ≡ LAST)
    ⊎ ((unit : ℕ) × (has_mark r.part.marks (record { unit = unit; by = None }) ≡ true)))

pub record HaveOpened (heap : HeapShown) (q r : CallerShown) (ends : List (Option Receipt))
    : Type 0 where
  pub puts : HaveComeTo heap q r (first_puts 8) ends
  pub settled : IsSettled r.known

abbrev pub HasOpened : HeapShown → CallerShown → CallerShown → Type 0
HasOpened heap q r = (ends : List (Option Receipt)) × HaveOpened heap q r ends

-- What a caller knows of the opening: it has seen the entries, and they are of no epoch above those
-- that it has seen, all of which are settled.
pub record KnowsOpening (q : CallerKnown) (opening : List Receipt) : Type 0 where
  pub seen : All (HasSeenPlace q) opening
  pub epochs : All (λ (x : Receipt). x.entry.epoch ≤ q.part.newest) opening
  pub settled : IsSettled q
