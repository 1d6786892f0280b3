-- What notes leave of the parts of a store.
use Rattle.std.proofs.Common.{◌≡◌, ℕ, zero, suc, ◌+◌, ◌≤◌, List, [], Bool, true, false, ap, ◌∙◌, subst, refl, arith}
use Rattle.std.specs.Prelude.{nat_le}
use Rattle.std.proofs.lemmas.Bool.Decides.{nat_tests}
use Rattle.mont_base.specs.Layout.{units_of}
use Rattle.core_steps.proofs.Decisions.{both}
use Rattle.heap_rule.specs.declared.views.NoteKnown.{NoteKnown}
use Rattle.heap_rule.specs.Views.{are_clean, is_among, caller_heard, unit_shown}
use Rattle.heap.specs.HeapShown.{HeapShown, CallerShown}
use Rattle.slots.specs.Books.{RegionShown}
use Rattle.found_regions.specs.FoundRegion.{IsRegionFound, IsRegionSwept}
use Rattle.found_regions.proofs.Cleaned.{among_front, known_behind, one_more_known}
use Rattle.recover.specs.FoundTicket.{IsTicketFound, knows_all}

-- ---- a ticket that takes a note
pub heard_found : (heap : HeapShown) (k : ℕ) (t : CallerShown) (n : NoteKnown) → IsTicketFound heap k t
    → IsTicketFound heap k (record { table = t.table; known = caller_heard t.known n })
heard_found heap k t n is =
    record { table = is.table; caller = is.caller; calls = is.calls; receipts = is.receipts; cuts = is.cuts }

-- ---- a unit that takes one
abbrev pub region_shown : RegionShown → CallerShown → RegionShown
region_shown r t = record r { seat = record { table = r.seat.table; known = unit_shown r.seat.known t.known } }

pub shown_found : (heap : HeapShown) (u : ℕ) (r : RegionShown) (t : CallerShown) → IsRegionFound heap u r
    → IsRegionFound heap u (region_shown r t)
shown_found heap u r t k = record {
  of_heap = record { table = k.of_heap.table; layout = k.of_heap.layout };
  of_unit = k.of_unit;
  agrees = k.agrees;
  running = k.running;
  sweeps = k.sweeps;
  records = k.records;
  history = k.history;
  written = k.written;
  writing = k.writing;
  home = k.home;
  identity = k.identity;
  serial = k.serial;
  clean = λ none. among_front r.seat.known.clean t.known.clean u (k.clean none);
}

pub shown_swept : (heap : HeapShown) (r : RegionShown) (t : CallerShown) → r.books.lost ≡ []
    → are_clean (units_of heap.opening.layout) t.known.clean ≡ true → IsRegionSwept heap (region_shown r t)
shown_swept heap r t none known =
    record { none = none; knows = known_behind (units_of heap.opening.layout) r.seat.known.clean t.known.clean known }

-- ---- what a ticket knows that has taken a note of the next unit
pub heard_known : (u : ℕ) (old new : CallerShown) (n : NoteKnown) → new ≡ record { table = old.table; known = caller_heard old.known n }
    → are_clean u old.known.clean ≡ true → is_among n.clean u ≡ true → are_clean (u + 1) new.known.clean ≡ true
heard_known u old new n is known one =
    ap (λ (t : CallerShown). are_clean (u + 1) t.known.clean) is ∙ one_more_known u old.known.clean n.clean known one

-- all units are below a number that isn't below theirs
fewer_known : (n m : ℕ) (clean : List ℕ) → m ≤ n → are_clean n clean ≡ true → are_clean m clean ≡ true
fewer_known zero zero clean low all = all
fewer_known zero (suc m) clean low all = absurd (omega arith)
fewer_known (suc n) m clean low all =
    by (nat_le m n) refl (λ l. fewer_known n m clean l (both (is_among clean n) (are_clean n clean) all).1)
  where
    by : (t : Bool) → nat_le m n ≡ t → (m ≤ n → are_clean m clean ≡ true) → are_clean m clean ≡ true
    by true f rest = rest (grind (arith, nat_tests))
    by false f rest =
        let same : suc n ≡ m = grind (arith, nat_tests) in
        subst (λ (k : ℕ). are_clean k clean ≡ true) same all

pub known_all : (heap : HeapShown) (n : ℕ) (clean : List ℕ) → units_of heap.opening.layout ≤ n → are_clean n clean ≡ true
    → knows_all heap clean
known_all heap n clean low known = fewer_known n (units_of heap.opening.layout) clean low known
