-- The callers of the bank, before their shifts and after them.
use Rattle.std.specs.Prelude.{◌≡◌, ℕ, List, length, slice_get, Option, Some, All, OnOk}
use Rattle.mont_base.specs.declared.operation.Receipt.{Receipt}
use Rattle.heap.specs.HeapShown.{HeapShown, CallerShown}
use Rattle.heap_pass.specs.Kept.{IsWhole}
use Rattle.store.specs.StoreCalls.{IsSamePass}
use Rattle.bank_job.specs.Shifts.{first_shifts, IsBetweenUnits}
use Rattle.bank_store.specs.declared.tellers.Teller.{Teller}
use Rattle.bank_store.specs.BankCallers.{IsOpener, IsReady}
use Rattle.bank_store.specs.MadeShifts.{HasMadeShifts}
use Rattle.bank_store.specs.OpenedAccounts.{puts_given}

-- ---- before the shifts
pub record IsTeller
    (heap : HeapShown) (number : ℕ) (opening : List Receipt) (caller : ℕ) (t : Teller)
    : Type 0 where
  pub ready : IsReady heap opening caller t.pass.ticket
  pub whole : IsWhole t.pass.ticket t.pass.receipts.items
  pub shifts : t.shifts.items ≡ first_shifts number caller 500
  pub between : All IsBetweenUnits t.shifts.items

-- all callers, the first of whom has opened the accounts
pub record AreReady (heap : HeapShown) (number : ℕ) (tellers : List Teller) : Type 0 where
  pub four : length tellers ≡ 4
  pub ends : List (Option Receipt)
  pub opener : CallerShown
  pub opened : IsOpener heap ends opener
  pub first : (t : Teller) → slice_get tellers 0 ≡ Some t → t.pass.ticket ≡ opener
  pub each :
      (caller : ℕ) (t : Teller) → slice_get tellers caller ≡ Some t
      → IsTeller heap number (puts_given ends) caller t

-- ---- after them
-- A teller made its shifts, where memory was enough.
pub record HasWorked (heap : HeapShown) (old new : Teller) : Type 0 where
  pub same : IsSamePass old.pass new.pass
  pub made : OnOk new.made
      (HasMadeShifts heap old.pass.ticket new.pass.ticket old.shifts.items)

pub record HaveWorked (heap : HeapShown) (olds news : List Teller) : Type 0 where
  pub many : length news ≡ length olds
  pub each :
      (caller : ℕ) (old new : Teller) → slice_get olds caller ≡ Some old
      → slice_get news caller ≡ Some new → HasWorked heap old new
