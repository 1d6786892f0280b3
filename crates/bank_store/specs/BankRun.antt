-- What a run of the bank of a number comes to: which histories its callers made, what recovery
-- finds of them, and that the accounts have kept their total.
use Rattle.std.specs.Prelude.{◌≡◌, ℕ, zero, suc, ◌+◌, ◌-◌, ◌<◌, ◌≤◌, List, [], ◌∷◌, ◌++◌, length, map, take, sum_by, count_by, slice_get, Some, None, All, AllPairs}
use Rattle.mont_base.specs.declared.constants.TheConstants.{FIRST_CLOCK, LAST}
use Rattle.std.specs.FinMap as finite
use Rattle.mont_base.specs.declared.operation.Entry.{Entry}
use Rattle.mont_base.specs.declared.operation.Op.TheVariants as ops
use Rattle.mont_base.specs.declared.operation.Receipt.{Receipt}
use Rattle.mont_base.specs.declared.operation.Reply.TheVariants.{WasText}
use Rattle.mont_base.specs.History.{state_after}
use Rattle.mont_base.specs.Image.{empty_states}
use Rattle.mont_base.specs.Layout.{unit_of_key}
use Rattle.mont_base.specs.Seen.{IsEntryAt, IsInOrder, IsReceiptOf, names_place}
use Rattle.mont_base.specs.State.{Key, MapOf, State, step}
use Rattle.std.specs.Prelude.{decimal}
use Rattle.heap.specs.HeapShown.{HeapShown}
use Rattle.store_stop.specs.Headline.{AreLegal, cut_states}
use Rattle.bank_job.specs.declared.shifts.Shift.{Shift}
use Rattle.bank_job.specs.Bank.{bank_layout, first_puts}
use Rattle.bank_job.specs.Shifts.{first_shifts}
use Rattle.bank_job.specs.BankText.{number_total}
use Rattle.bank_store.specs.BankStore.{IsOfBankStore}
use Rattle.bank_store.specs.Ends.{End, HasGone, HoldsOfEach, all_given}

-- ---- why there is no shift
-- under the key there is so much after these entries of its unit
abbrev pub HoldsBehind : List Entry → Key → ℕ → Type 0
HoldsBehind history key have =
    (step (state_after (MapOf finite.empty) history) (ops.Get key)).reply ≡ WasText (decimal have)

-- After some first entries of the unit of `from` there is less than the amount. They are more than
-- the places of the caller's earlier entries in the unit, and no more than those of its later ones.
pub record WasShort
    (histories : List (List Entry)) (shift : Shift) (earlier later : List Receipt) : Type 0 where
  pub unit : ℕ
  pub of_from : unit_of_key bank_layout shift.from ≡ Some unit
  pub history : List Entry
  pub of_unit : slice_get histories unit ≡ Some history
  pub first : ℕ
  pub there : first ≤ length history
  pub have : ℕ
  pub holds : HoldsBehind (take first history) shift.from have
  pub less : have < shift.amount
  pub behind : All (λ (r : Receipt). r.unit ≡ unit → r.place < first) earlier
  pub before : All (λ (r : Receipt). r.unit ≡ unit → first ≤ r.place) later

-- a shift was made, or there was too little
abbrev pub ShiftEnds : List (List Entry) → Shift → End → List Receipt → List Receipt → Type 0
ShiftEnds histories shift (Some pair) earlier later = HasGone shift pair
ShiftEnds histories shift None earlier later = WasShort histories shift earlier later

-- ---- the callers
-- the first one opens the accounts before it shifts
abbrev pub begun_with : List Receipt → ℕ → List Receipt
begun_with opening zero = opening
begun_with opening (suc caller) = []

-- what the callers were given, by their numbers
abbrev pub rows_from : List Receipt → ℕ → List (List End) → List (List Receipt)
rows_from opening caller [] = []
rows_from opening caller (ends ∷ callers) =
    (begun_with opening caller ++ all_given ends) ∷ rows_from opening (suc caller) callers

-- They name each entry of the histories once. Each caller's are of its calls in their order, along
-- which no epoch falls, and places in one unit rise.
pub record NameHistories (histories : List (List Entry)) (rows : List (List Receipt)) : Type 0 where
  pub named :
      (caller call : ℕ) (row : List Receipt) (r : Receipt) → slice_get rows caller ≡ Some row
      → slice_get row call ≡ Some r → IsReceiptOf histories caller call r
  pub order :
      (caller : ℕ) (row : List Receipt) → slice_get rows caller ≡ Some row
      → AllPairs IsInOrder row
  pub once :
      (unit place : ℕ) (e : Entry) → IsEntryAt histories unit place e
      → sum_by (λ (row : List Receipt). count_by (names_place unit place) row) rows ≡ 1

-- ---- the run
-- what the opening's entries ask are the puts of the eight accounts
abbrev pub OpensAccounts : List Receipt → Type 0
OpensAccounts opening = map (λ (r : Receipt). r.entry.op) opening ≡ first_puts 8

-- The opening was durable before the shifts were made: each entry of a shift is of an epoch at
-- least two past that of each entry of the opening.
abbrev pub ComeAfter : List Receipt → List Receipt → Type 0
ComeAfter opening shifts =
    All (λ (r : Receipt). All (λ (x : Receipt). x.entry.epoch + 2 ≤ r.entry.epoch) opening) shifts

-- The histories are legal from nothing. Their entries are those of the opening and of the shifts
-- that were made, each caller's in the order generated. They are those of a stopped store, and the
-- contents are what recovery finds in its durable words: what the histories lead to, up to two
-- epochs before the image's clock. Where that isn't the last clock, the shifts come after the
-- opening was durable, and the accounts have what they had at first.
pub record IsBankRun
    (number : ℕ) (histories : List (List Entry)) (clock : ℕ) (contents : List State)
    : Type 0 where
  pub legal : AreLegal bank_layout FIRST_CLOCK (empty_states bank_layout) histories
  pub opening : List Receipt
  pub opened : OpensAccounts opening
  pub ends : List (List End)
  pub callers : length ends ≡ 4
  pub each :
      (caller : ℕ) (of_caller : List End) → slice_get ends caller ≡ Some of_caller
      → HoldsOfEach (ShiftEnds histories) (begun_with opening caller)
      (first_shifts number caller 500) of_caller
  pub named : NameHistories histories (rows_from opening 0 ends)
  pub after :
      clock < LAST → All (λ (of_caller : List End). ComeAfter opening (all_given of_caller)) ends
  pub of_store : IsOfBankStore (rows_from opening 0 ends) histories clock contents
  pub begun : FIRST_CLOCK ≤ clock
  pub last : clock ≤ LAST
  pub rebuilt : contents ≡ cut_states (clock - 2) (empty_states bank_layout) histories
  pub total : clock < LAST → number_total contents ≡ 8000

-- a run on a store of this heap
pub record IsBankRunOn
    (heap : HeapShown) (number : ℕ) (histories : List (List Entry)) (clock : ℕ)
    (contents : List State) : Type 0 where
  pub run : IsBankRun number histories clock contents
  pub of_heap : run.of_store.heap ≡ heap
