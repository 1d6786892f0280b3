-- Of which stopped store a run of the bank tells, and what of it.
use Rattle.std.specs.Prelude.{◌≡◌, ℕ, List, map}
use Rattle.mont_base.specs.declared.constants.TheConstants.{FIRST_CLOCK}
use Rattle.mont_base.specs.declared.operation.Entry.{Entry}
use Rattle.mont_base.specs.declared.operation.Receipt.{Receipt}
use Rattle.mont_base.specs.Image.{IsRecovered, clock_of, empty_states}
use Rattle.mont_base.specs.State.{State}
use Rattle.plain.specs.declared.contents.Contents.{Contents}
use Rattle.plain.specs.States.{states_of}
use Rattle.heap.specs.FreshOpening.{fresh_opening}
use Rattle.heap.specs.HeapShown.{HeapShown, CallerShown}
use Rattle.store.specs.Store.{AreAllCallers}
use Rattle.store_stop.specs.declared.headline.Stopped.{Stopped}
use Rattle.store_stop.specs.Headline.{IsStopped}
use Rattle.bank_job.specs.Bank.{bank_layout}

-- These are the histories of the stopped store, the clock of its durable words, and what recovery
-- finds in its durable words.
pub record TellsDurable
    (t : Stopped) (histories : List (List Entry)) (clock : ℕ) (contents : List State)
    : Type 0 where
  pub histories_are : histories ≡ t.histories
  pub clock_is : clock ≡ clock_of t.words.dur
  pub recovered : IsRecovered t.words.layout t.words.dur contents

-- So they are of a store on this heap, which opened with nothing for four callers, and was stopped
-- when its callers had been given these receipts.
pub record IsOfBankStore
    (rows : List (List Receipt)) (histories : List (List Entry)) (clock : ℕ)
    (contents : List State) : Type 0 where
  pub heap : HeapShown
  pub opening : heap.opening ≡ fresh_opening bank_layout 4
  pub base : Contents
  pub empty : states_of base ≡ empty_states bank_layout
  pub callers : List CallerShown
  pub callers_are : AreAllCallers heap callers
  pub given : map (λ (q : CallerShown). q.known.part.receipts) callers ≡ rows
  pub store : Stopped
  pub stopped : IsStopped bank_layout FIRST_CLOCK base callers store
  pub tells : TellsDurable store histories clock contents
