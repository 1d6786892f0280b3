-- Which entries the cut of an image has, by their epochs.
use Rattle.std.proofs.Common.{◌≡◌, ℕ, ◌<◌, ◌≤◌, List, sym, subst, arith}
use Rattle.std.specs.Prelude.{nat_le, slice_get, All}
use Rattle.std.specs.List.{Contains}
use Rattle.std.proofs.lemmas.Bool.Decides.{nat_tests}
use Rattle.std.proofs.lemmas.List.Elements.{All-contains, Contains-get_or}
use Rattle.std.proofs.lemmas.Option.{slice_get_within, get_or_from_slice_get}
use Rattle.mont_base.specs.declared.operation.Entry.{Entry}
use Rattle.mont_base.specs.declared.operation.Receipt.{Receipt}
use Rattle.mont_base.specs.History.{cut_at}
use Rattle.mont_base.specs.Image.{IsPermitted, clock_of, cut_of}
use Rattle.mont_base.specs.Layout.{Shape}
use Rattle.mont_base.specs.Seen.{IsEntryAt}
use Rattle.mont_laws.proofs.Members.{element_kept, kept_element}
use Rattle.plain.specs.declared.contents.Contents.{Contents}
use Rattle.core_steps.specs.CallerClauses.{receipts_of}
use Rattle.core_steps.proofs.RowFacts.{row_from, row_gives, row_in_map}
use Rattle.heap.specs.HeapShown.{CallerShown}
use Rattle.heap_rule.specs.declared.views.LeftWithin.{LeftWithin}
use Rattle.store_stop.specs.declared.headline.Stopped.{Stopped}
use Rattle.store_stop.specs.Headline.{IsHeldBack, IsInCut, IsStopped, parts_shown}
use Rattle.unit_totals.specs.Together.{EntryLeftAloneIsBehindCut, OneEpochStandsTogether, WasGiven}

-- ---- by its epoch
module _ (histories : List (List Entry)) (x : ℕ) (r : Receipt) where
  early : IsInCut histories x r → r.entry.epoch ≤ x
  early k =
      let h = row_gives (λ (h : List Entry). Contains (cut_at x h) r.entry) (slice_get histories r.unit) k in
      let kept = kept_element (λ (e : Entry). nat_le e.epoch x) r.entry h.0 h.2 in
      let t = kept.1 in
      grind (arith, nat_tests)

  in_cut : IsEntryAt histories r.unit r.place r.entry → r.entry.epoch ≤ x → IsInCut histories x r
  in_cut there low =
      row_from (λ (h : List Entry). Contains (cut_at x h) r.entry) (slice_get histories r.unit) there.0 there.1
      (element_kept (λ (e : Entry). nat_le e.epoch x) r.entry there.0
      (subst (Contains there.0) (get_or_from_slice_get there.0 r.place r.entry r.entry there.2)
      (Contains-get_or there.0 r.place r.entry (slice_get_within there.0 r.place r.entry there.2)))
      (grind (arith, nat_tests)))

-- ---- of a stopped store
module _ (s : Shape) (clock : ℕ) (base : Contents) (callers : List CallerShown) (t : Stopped) (image : List ℕ)
    (stopped : IsStopped s clock base callers t) where
  there : (r : Receipt) → WasGiven (parts_shown callers) r → IsEntryAt t.histories r.unit r.place r.entry
  there r g =
      (stopped.order.receipt g.caller g.call g.part.receipts r
      (row_in_map receipts_of (parts_shown callers) g.caller g.part g.of_caller) g.of_call).there

  carries : (one other : Receipt) → WasGiven (parts_shown callers) other → one.entry.epoch ≡ other.entry.epoch
      → IsInCut t.histories (cut_of image) one → IsInCut t.histories (cut_of image) other
  carries one other g same k =
      let low = early t.histories (cut_of image) one k in
      in_cut t.histories (cut_of image) other (there other g) (omega (arith, low, same))

  held : (q : CallerShown) (left : LeftWithin) → IsPermitted t.words.cur t.words.dur image → Contains callers q
      → Contains q.known.within left → cut_of image < left.epoch
  held q left permitted is_caller is_left =
      let images = stopped.images image permitted in
      let begun = images.accepted.clock_begun in
      let behind = images.not_behind in
      let back = All-contains (IsHeldBack (clock_of t.words.cur)) q.known.within left
      (All-contains (λ (c : CallerShown). All (IsHeldBack (clock_of t.words.cur)) c.known.within) callers q stopped.held_back is_caller)
      is_left in
      omega (arith, begun, behind, back)

pub one_epoch_stands_together : OneEpochStandsTogether
one_epoch_stands_together s clock base callers t image one other stopped permitted g h same = (
  carries s clock base callers t image stopped one other h same,
  carries s clock base callers t image stopped other one g (sym same),
)

pub entry_left_alone_is_behind_cut : EntryLeftAloneIsBehindCut
entry_left_alone_is_behind_cut s clock base callers t image q left alone stopped permitted is_caller is_left same =
    let low = held s clock base callers t image stopped q left permitted is_caller is_left in (
      omega (arith, low, same),
      λ k. let e = early t.histories (cut_of image) alone k in absurd (omega (arith, low, same, e)),
    )
