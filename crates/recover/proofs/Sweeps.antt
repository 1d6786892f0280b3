-- What a sweep and a stop make of the parts of a store.
use Rattle.std.proofs.Common.{◌≡◌, ℕ, List, [], ◌++◌, length, map, take, drop, append-nil, false, ap, sym, ◌∙◌, subst, arith}
use Rattle.std.specs.Prelude.{slice_get, Some, Ok, Err, IfOk, All}
use Rattle.std.specs.declared.result.Result.{Result}
use Rattle.std.proofs.lemmas.List.{length-map, take_all, drop_all}
use Rattle.std.proofs.lemmas.List.Elements.{All-weaker}
use Rattle.mont_base.specs.declared.memory.Words.{Words}
use Rattle.mont_base.specs.declared.record.Object.{Object}
use Rattle.mont_base.specs.Image.{IsPermitted}
use Rattle.mont_base.specs.Layout.{units_of, words_of}
use Rattle.mont_base.specs.State.{State}
use Rattle.core_steps.specs.Places.{EachAt}
use Rattle.core_steps.proofs.RowFacts.{row_of_map, all_at}
use Rattle.heap_rule.specs.declared.views.CallerKnown.{CallerKnown}
use Rattle.heap_rule.specs.declared.views.UnitTurn.{UnitTurn}
use Rattle.heap_rule.specs.Views.{advancer_shown}
use Rattle.heap.specs.HeapShown.{HeapShown, UnitShown, AdvShown}
use Rattle.heap.specs.Stops.{AreAllSeats, AreAtHome, IsSeatOfUnit, StopsAt}
use Rattle.slots.specs.Books.{RegionShown}
use Rattle.recover.specs.StoppedWords.{HoldsBase, IsUnused}
use Rattle.recover.proofs.StoppedWords.{unused_stores_keep_base}
use Rattle.found_regions.specs.FoundRegion.{IsRegionSwept}
use Rattle.found_regions.proofs.Cleaned.{known_behind}
use Rattle.recover.specs.FoundTicket.{knows_all}
use Rattle.store_stop.specs.Headline.{AreAllWords}
use Rattle.recover.specs.Recovery.{RecoveredShown, IsRecovery, lost_in}
use Rattle.recover.proofs.Turns.{none_in}

-- ---- a sweep
pub advancer_knows : (heap : HeapShown) (a b : AdvShown) (q : CallerKnown) → knows_all heap q.clean
    → b ≡ record { table = a.table; known = advancer_shown a.known q } → knows_all heap b.known.clean
advancer_knows heap a b q known is = subst (λ (x : AdvShown). knows_all heap x.known.clean) (sym is)
    (known_behind (units_of heap.opening.layout) a.known.clean q.clean known)

-- ---- a stop
-- what its words are
pub record LeavesWords (x : RecoveredShown) (words : Words) : Type 0 where
  pub layout : words.layout ≡ x.heap.opening.layout
  pub all : AreAllWords x.heap.opening.layout words
  pub images :
      (image : List ℕ) → IsPermitted words.cur words.dur image → HoldsBase x.heap.opening.layout x.heap.opening.words image

module _ (clock : ℕ) (states : List State) (objects : List (List Object)) (x : RecoveredShown) (k : IsRecovery clock states objects x) where
  abbrev units : List UnitShown
  units = map (λ (r : RegionShown). r.seat) x.regions

  seat_at : (u : ℕ) (s : UnitShown) → slice_get units u ≡ Some s → (r : RegionShown) × (slice_get x.regions u ≡ Some r) × (r.seat ≡ s)
  seat_at u s e = row_of_map (λ (r : RegionShown). r.seat) x.regions u s e

  seat_of : EachAt (IsSeatOfUnit x.heap) units
  seat_of u s e =
      let r = seat_at u s e in
      let f = k.regions u r.0 r.1 in
      subst (IsSeatOfUnit x.heap u) r.2 (f.of_heap.table, f.of_unit)

  pub all_seats : AreAllSeats x.heap units x.advancer x.tickets
  all_seats = record {
    unit_count = length-map x.regions (λ (r : RegionShown). r.seat) ∙ k.unit_count;
    each_unit = seat_of;
    the_advancer = k.advancer.table;
    caller_count = k.caller_count;
    each_caller = λ j t e. let f = k.tickets j t e in (f.table, f.caller);
  }

  pub at_home : AreAtHome units
  at_home = all_at (λ (s : UnitShown). s.known.turn.out ≡ false) units (λ u s e.
      let r = seat_at u s e in
      let f = k.regions u r.0 r.1 in
      subst (λ (s : UnitShown). s.known.turn.out ≡ false) r.2 (ap (λ (t : UnitTurn). t.out) f.home))

  unused : IsUnused x.heap.opening units x.advancer
  unused = record {
    unanswered = all_at (λ (s : UnitShown). s.known.part.history ≡ []) units (λ u s e.
        let r = seat_at u s e in
        subst (λ (s : UnitShown). s.known.part.history ≡ []) r.2 (k.regions u r.0 r.1).history);
    clock_is = k.advancer.clock;
    durable_is = k.advancer.durable;
  }

  leaves_words : (words : Words) → StopsAt x.heap.opening units x.advancer x.tickets words → LeavesWords x words
  leaves_words words stops =
      let sizes = (stops.sound states k.base).sizes in record {
        layout = stops.layout.0;
        all = record {
          current = ap length stops.current ∙ (sizes.current ∙ ap words_of stops.layout.1);
          durable = ap length stops.durable ∙ (sizes.durable ∙ ap words_of stops.layout.1);
        };
        images = λ image permitted.
            unused_stores_keep_base x.heap.opening states units x.advancer x.tickets words image k.base unused stops permitted;
      }

  pub stop_leaves : {E : Type 0} (result : Result Words E) (us : List UnitShown) → us ≡ units
      → IfOk result (λ (words : Words). StopsAt x.heap.opening us x.advancer x.tickets words) → IfOk result (LeavesWords x)
  stop_leaves (Ok words) us is stops =
      leaves_words words (subst (λ (l : List UnitShown). StopsAt x.heap.opening l x.advancer x.tickets words) is stops)
  stop_leaves (Err e) us is stops = tt

pub told_layout : {E : Type 0} (x : RecoveredShown) (result : Result Words E) → IfOk result (LeavesWords x)
    → IfOk result (λ (words : Words). words.layout ≡ x.heap.opening.layout)
told_layout x (Ok words) is = is.layout
told_layout x (Err e) is = tt

pub told_all : {E : Type 0} (x : RecoveredShown) (result : Result Words E) → IfOk result (LeavesWords x)
    → IfOk result (λ (words : Words). AreAllWords x.heap.opening.layout words)
told_all x (Ok words) is = is.all
told_all x (Err e) is = tt

pub told_images : {E : Type 0} (x : RecoveredShown) (result : Result Words E) → IfOk result (LeavesWords x)
    → IfOk result (λ (words : Words). (image : List ℕ) → IsPermitted words.cur words.dur image
    → HoldsBase x.heap.opening.layout x.heap.opening.words image)
told_images x (Ok words) is = is.images
told_images x (Err e) is = tt

-- ---- none is lost
pub none_after : (heap : HeapShown) (rs : List RegionShown) → All (IsRegionSwept heap) rs → lost_in rs ≡ 0
none_after heap rs all =
    none_in rs (All-weaker (IsRegionSwept heap) (λ (r : RegionShown). r.books.lost ≡ []) (λ r swept. swept.none) rs all)

-- ---- a slice that was written whole
pub whole_written : {A : Type 0} (old new : List A) (len : ℕ) → length new ≡ length old → len ≡ length old
    → take len (new ++ drop (length new) old) ≡ new
whole_written old new len same long =
    ap (take len) (ap (λ (r : _). new ++ r) (drop_all (length new) old (omega (arith, same))) ∙ append-nil new)
    ∙ take_all len new (omega (arith, same, long))
