-- Both or neither: entries of one epoch in the cut of an image, and an entry that a cut left alone.
use Rattle.std.specs.Prelude.{◌≡◌, ◌↔◌, ℕ, ◌<◌, List, slice_get, Some}
use Rattle.std.specs.List.{Contains}
use Rattle.mont_base.specs.declared.operation.Receipt.{Receipt}
use Rattle.mont_base.specs.Image.{IsPermitted, cut_of}
use Rattle.mont_base.specs.Layout.{Shape}
use Rattle.plain.specs.declared.contents.Contents.{Contents}
use Rattle.core_steps.specs.declared.parts.CallerPart.{CallerPart}
use Rattle.heap.specs.HeapShown.{CallerShown}
use Rattle.heap_rule.specs.declared.views.LeftWithin.{LeftWithin}
use Rattle.store_stop.specs.declared.headline.Stopped.{Stopped}
use Rattle.store_stop.specs.Headline.{IsInCut, IsStopped, parts_shown}

-- one of the callers was answered a call with this receipt
pub record WasGiven (callers : List CallerPart) (receipt : Receipt) : Type 0 where
  pub caller : ℕ
  pub call : ℕ
  pub part : CallerPart
  pub of_caller : slice_get callers caller ≡ Some part
  pub of_call : slice_get part.receipts call ≡ Some receipt

-- Of two answered calls of one epoch, whichever callers made them, an image that a crash permits of
-- a stopped store has both in its cut, or neither.
abbrev pub OneEpochStandsTogether : Type 0
OneEpochStandsTogether =
    (s : Shape) (clock : ℕ) (base : Contents) (callers : List CallerShown) (t : Stopped)
    (image : List ℕ) (one other : Receipt)
    → IsStopped s clock base callers t → IsPermitted t.words.cur t.words.dur image
    → WasGiven (parts_shown callers) one → WasGiven (parts_shown callers) other
    → one.entry.epoch ≡ other.entry.epoch
    → IsInCut t.histories (cut_of image) one ↔ IsInCut t.histories (cut_of image) other

-- An entry of an epoch within which a caller left a unit halted is after the cut of every image
-- that a crash permits: so is the half of a shift that a cut left alone.
abbrev pub EntryLeftAloneIsBehindCut : Type 0
EntryLeftAloneIsBehindCut =
    (s : Shape) (clock : ℕ) (base : Contents) (callers : List CallerShown) (t : Stopped)
    (image : List ℕ) (q : CallerShown) (left : LeftWithin) (alone : Receipt)
    → IsStopped s clock base callers t → IsPermitted t.words.cur t.words.dur image
    → Contains callers q → Contains q.known.within left → alone.entry.epoch ≡ left.epoch
    → (cut_of image < alone.entry.epoch) × (IsInCut t.histories (cut_of image) alone → ⊥)
