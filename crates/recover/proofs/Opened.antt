-- What a region is opened with.
use Rattle.std.proofs.Common.{◌≡◌, ℕ, ◌<◌, List, ap, sym, ◌∙◌, subst}
use Rattle.mont_base.specs.declared.record.Held.{Held}
use Rattle.mont_base.specs.Image.{IsWellFormed, records_of}
use Rattle.mont_base.specs.Layout.{Shape, units_of}
use Rattle.core_steps.specs.Opened.{slots_beyond}
use Rattle.heap_rule.specs.Views.{first_unit}
use Rattle.heap.specs.HeapShown.{HeapShown, UnitShown}
use Rattle.slots.specs.RegionBeginning.{BeginsWith, AreFound, first_books}
use Rattle.slots.specs.Books.{RegionShown, BooksShown, Agrees}
use Rattle.region_laws.proofs.FoundImages.{images_are_found}
use Rattle.found_regions.specs.FoundRegion.{records_found}
use Rattle.recover.specs.Recovery.{IsRegionOpened}
use Rattle.found_regions.proofs.FoundRegions.{begins_found, region_found}

module _ (heap : HeapShown) (l : Shape) (same : l ≡ heap.opening.layout) (u : ℕ) (seat : UnitShown) (records : List Held) (lost : List ℕ)
    (is : seat ≡ record { table = heap.table; known = first_unit heap.opening u }) (records_are : records ≡ records_found heap u)
    (lost_are : lost ≡ slots_beyond l heap.opening.words u) where
  lost_here : lost ≡ slots_beyond heap.opening.layout heap.opening.words u
  lost_here = lost_are ∙ ap (λ (s : Shape). slots_beyond s heap.opening.words u) same

  pub of_unit : seat.known.unit ≡ u
  of_unit = ap (λ (x : UnitShown). x.known.unit) is

  pub begins : BeginsWith seat.known.part records lost
  begins = begins_found heap u seat records lost is records_are lost_here

  pub are_found : IsWellFormed l heap.opening.words → u < units_of l → AreFound l u records lost
  are_found well low = subst (λ (x : List Held × List ℕ). AreFound l u x.0 x.1)
      (λ i. (sym (records_are ∙ ap (λ (s : Shape). records_of s heap.opening.words u) (sym same)) i, sym lost_are i))
      (images_are_found l heap.opening.words u well low)

  pub opened : (r : RegionShown) → u < units_of l → Agrees r → r.seat ≡ seat → r.books ≡ first_books l u records lost
      → IsRegionOpened heap u r
  opened r low agrees shows books = record {
    found = region_found heap u seat records lost r (subst (λ (s : Shape). u < units_of s) same low) is records_are lost_here agrees shows
        (books ∙ ap (λ (s : Shape). first_books s u records lost) same);
    unswept = ap (λ (b : BooksShown). b.lost) books ∙ lost_here;
  }
