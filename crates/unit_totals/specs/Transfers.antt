-- Transfers: what one entry takes out of a map unit another puts into one, in the same epoch. So a
-- cut has both or neither, and its total is that of the opening.
use Rattle.std.specs.Prelude.{◌≡◌, ℕ, ◌+◌, ◌<◌, ◌≤◌, ◌⊎◌, List, [], ◌∷◌, ◌++◌, map, All, sum_by}
use Rattle.std.specs.List.{flat_map}
use Rattle.std.specs.List.Sorted.{IsPermutation}
use Rattle.mont_base.specs.declared.operation.Receipt.{Receipt}
use Rattle.mont_base.specs.Image.{IsPermitted, IsRecovered, cut_of}
use Rattle.mont_base.specs.Layout.{Shape}
use Rattle.mont_base.specs.State.{Value, State}
use Rattle.plain.specs.declared.contents.Contents.{Contents}
use Rattle.plain.specs.States.{states_of}
use Rattle.core_steps.specs.CallerClauses.{receipts_of}
use Rattle.heap.specs.HeapShown.{CallerShown}
use Rattle.store_stop.specs.declared.headline.Stopped.{Stopped}
use Rattle.store_stop.specs.Headline.{IsStopped, parts_shown}
use Rattle.unit_totals.specs.MapBooks.{amount_in_all, put_in, taken_out}
use Rattle.unit_totals.specs.Naming.{all_receipts}

-- two entries of one epoch, which together put in what they take out
pub record IsTransfer (amount : Value → ℕ) (pair : Receipt × Receipt) : Type 0 where
  pub epoch : pair.0.entry.epoch ≡ pair.1.entry.epoch
  pub even :
      put_in amount pair.0.entry + put_in amount pair.1.entry
      ≡ taken_out amount pair.0.entry + taken_out amount pair.1.entry

abbrev pub both_of : Receipt × Receipt → List Receipt
both_of pair = pair.0 ∷ pair.1 ∷ []

-- an entry that leaves the total as it is, as a look does, or is after the cut
abbrev pub IsNoMatter : (Value → ℕ) → ℕ → Receipt → Type 0
IsNoMatter amount x r =
    (x < r.entry.epoch) ⊎ (put_in amount r.entry ≡ taken_out amount r.entry)

-- The receipts are those of an opening, which is within the cut at x, of transfers, and of what
-- doesn't matter to a total.
pub record AreTransfers
    (amount : Value → ℕ) (x : ℕ) (receipts opening : List Receipt)
    (transfers : List (Receipt × Receipt)) (others : List Receipt) : Type 0 where
  pub parts : IsPermutation (opening ++ flat_map both_of transfers ++ others) receipts
  pub within : All (λ (r : Receipt). r.entry.epoch ≤ x) opening
  pub transferred : All (IsTransfer amount) transfers
  pub still : All (IsNoMatter amount x) others

-- what a stopped store's callers were answered
abbrev pub receipts_in : List CallerShown → List Receipt
receipts_in callers = all_receipts (map receipts_of (parts_shown callers))

-- Whatever recovery rebuilds from an image that a crash permits of a stopped store comes to what
-- the opening made.
abbrev pub StoppedStoresKeepTotals : Type 0
StoppedStoresKeepTotals =
    (amount : Value → ℕ) (s : Shape) (clock : ℕ) (base : Contents) (callers : List CallerShown)
    (t : Stopped) (image : List ℕ) (states : List State) (opening : List Receipt)
    (transfers : List (Receipt × Receipt)) (others : List Receipt)
    → IsStopped s clock base callers t → IsPermitted t.words.cur t.words.dur image
    → IsRecovered s image states
    → AreTransfers amount (cut_of image) (receipts_in callers) opening transfers others
    → amount_in_all amount states + sum_by (λ (r : Receipt). taken_out amount r.entry) opening
    ≡ amount_in_all amount (states_of base)
    + sum_by (λ (r : Receipt). put_in amount r.entry) opening
