-- What a store that was recovered and swept gives to the structures, passes and advancer that go on.
use Rattle.std.proofs.Common.{◌≡◌, ℕ, ◌<◌, List, [], ◌∷◌, ◌++◌, length, map, get_or, refl, sym, ap, ◌∙◌, subst, arith, length-append}
use Rattle.std.specs.Prelude.{true, All, slice_get, Some, Vec}
use Rattle.std.proofs.lemmas.List.{length-map}
use Rattle.std.proofs.lemmas.Option.{slice_get_read}
use Rattle.mont_base.specs.declared.gate.Gate.{Ghosts}
use Rattle.mont_base.specs.declared.kinds.UnitKind.{UnitKind}
use Rattle.mont_base.specs.declared.record.Object.{Object}
use Rattle.mont_base.specs.Image.{IsWellFormed}
use Rattle.mont_base.specs.Layout.{Shape, kind_of, units_of}
use Rattle.mont_base.specs.State.{State}
use Rattle.mont_base.specs.Structure.{IsStructure}
use Rattle.mont_base.specs.Versions.{live_objects}
use Rattle.plain.specs.States.{states_of}
use Rattle.core_steps.specs.Places.{EachAt}
use Rattle.core_steps.proofs.RowFacts.{all_at, row_before, row_in_map, row_last}
use Rattle.heap.specs.HeapShown.{HeapShown, AdvShown, CallerShown}
use Rattle.heap_pass.specs.declared.pass.Pass.{Pass}
use Rattle.heap_pass.specs.OfHeap.{IsAdvancerOf}
use Rattle.heap_pass.specs.OfLayout.{IsOfLayout}
use Rattle.advance.specs.Stage.{IsAtRest}
use Rattle.slots.specs.Books.{RegionShown}
use Rattle.store_stop.specs.Headline.{IsBaseOf}
use Rattle.store_stop.proofs.Items.{all_gives}
use Rattle.structure_call.specs.CountedNumbers.{HasCounted}
use Rattle.structure_call.specs.Standing.{IsStanding}
use Rattle.found_regions.specs.FoundRegion.{IsRegionFound, IsRegionSwept}
use Rattle.found_regions.proofs.SweptRegions.{swept_regions_stand}
use Rattle.recover.specs.declared.store_parts.Parts.{Parts}
use Rattle.recover.specs.FoundTicket.{IsTicketFound}
use Rattle.recover.specs.Recovery.{AreLiveObjects, ArePartsOf, AreSwept, IsAdvancerFound, IsRecovery, RecoveredShown}
use Rattle.store.specs.declared.unit_structure.Structure.{Structure}
use Rattle.store.specs.Resuming.{AreObjectsOf, AreRegionsSwept}
use Rattle.store.specs.Store.{AreAllCallers, IsFirstPass}
use Rattle.store.specs.UnitAt.{region_of, structure_kind, IsSeated, StandsAt}
use Rattle.store.proofs.AskedKeys.{is_its_kind}
use Rattle.store.proofs.Passed.{one_more_passed}
use Rattle.store.proofs.UnitStands.{seated_by}

-- ---- a unit that was found
module _ (heap : HeapShown) (unit : ℕ) (r : RegionShown) (k : IsRegionFound heap unit r) (l : Shape) (same : l ≡ heap.opening.layout) where
  pub found_of_unit : r.books.unit ≡ unit
  found_of_unit = k.agrees.0 ∙ k.of_unit

  pub found_layout : r.books.layout ≡ l
  found_layout = k.of_heap.layout ∙ sym same

  -- it is one of the layout's
  pub found_inside : unit < units_of l
  found_inside =
      subst (λ (x : ℕ × Shape). x.0 < units_of x.1) (λ i. (found_of_unit i, found_layout i)) k.agrees.1.own.inside

  -- its kind
  pub found_kind : (kind : UnitKind) → kind_of l unit ≡ Some kind → kind_of l r.books.unit ≡ Some kind
  found_kind kind is = ap (kind_of l) found_of_unit ∙ is

  pub kind_in_books : (kind : UnitKind) → kind_of l unit ≡ Some kind → kind_of r.books.layout r.books.unit ≡ Some kind
  kind_in_books kind is = ap (λ (s : Shape). kind_of s r.books.unit) found_layout ∙ found_kind kind is

  -- its objects
  module _ (objects : List Object) (are : AreLiveObjects heap unit objects) where
    pub found_live : objects ≡ live_objects r.seat.known.part.records
    found_live = are ∙ ap live_objects (sym k.records)

    module _ (well : IsWellFormed heap.opening.layout heap.opening.words) where
      pub make_structure : (state : State) × IsStructure l r.books.unit objects state
      make_structure =
          let here = subst (λ (s : Shape). unit < units_of s) same found_inside in
          let d = well.defined unit here in (
            d.0,
            subst (λ (x : Shape × (ℕ × List Object)). IsStructure x.0 x.1.0 x.1.1 d.0)
                (λ i. (sym same i, (sym found_of_unit i, sym are i))) d.1,
          )

      pub structure_in_books : (state : State) × IsStructure r.books.layout r.books.unit objects state
      structure_in_books =
          let d = make_structure in
          (d.0, subst (λ (s : Shape). IsStructure s r.books.unit objects d.0) (sym found_layout) d.1)

-- the structure of a unit that was found and has no slot open beyond the cut
pub resumed_stands : {I : Type 0} (heap : HeapShown) (unit : ℕ) (r : RegionShown) → IsRegionFound heap unit r → IsRegionSwept heap r
    → (l : Shape) → l ≡ heap.opening.layout → (s : Structure I) → region_of s ≡ r → kind_of l unit ≡ Some (structure_kind s)
    → StandsAt heap unit s
resumed_stands heap unit r k swept l same s at kind =
    let both = swept_regions_stand heap unit r k swept in
    record {
      of_unit = ap (λ (x : RegionShown). x.books.unit) at ∙ found_of_unit heap unit r k l same;
      kind = is_its_kind (kind_of heap.opening.layout unit) (structure_kind s) (ap (λ (x : Shape). kind_of x unit) (sym same) ∙ kind);
      seated = subst IsSeated (sym at) (seated_by r k.agrees);
      stands = subst (IsStanding heap) (sym at) both.0;
      counted = subst (HasCounted heap) (sym at) both.1;
    }

-- ---- the next of the regions, and the objects of its unit
module _ (heap : HeapShown) (all done old new : List RegionShown) (r : RegionShown) (n : ℕ) (are : AreRegionsSwept heap all)
    (is : done ++ old ≡ all) (next : old ≡ r ∷ new) (at : n ≡ length done) where
  its_place : slice_get all (length done) ≡ Some r
  its_place =
      subst (λ (l : List RegionShown). slice_get l (length done) ≡ Some r) (one_more_passed all done old new r is next)
      (row_before (done ++ r ∷ []) new (length done) r (row_last done r))

  pub region_here : IsRegionFound heap n r
  region_here = subst (λ (k : ℕ). IsRegionFound heap k r) (sym at) (are.found (length done) r its_place)

  pub swept_here : IsRegionSwept heap r
  swept_here = all_gives (IsRegionSwept heap) all (length done) r are.swept its_place

-- there are the objects of as many units
pub objects_inside : {Z : Type 0} (heap : HeapShown) (all done old new : List RegionShown) (r : RegionShown) (n : ℕ)
    (objects : List (Vec Object Z)) → AreRegionsSwept heap all → AreObjectsOf heap (map (λ (w : Vec Object Z). w.items) objects)
    → done ++ old ≡ all → old ≡ r ∷ new → n ≡ length done → n < length objects
objects_inside {Z} heap all done old new r n objects are live is next at =
    let whole : length (done ++ old) ≡ length all = ap length is in
    let more = length-append done old in
    let one : length old ≡ length (r ∷ new) = ap length next in
    let units = are.many in
    let many = live.many in
    let same = length-map objects (λ (w : Vec Object Z). w.items) in
    omega (arith, whole, more, one, units, many, same, at)

-- they are the same where they are lent
pub objects_lent : {Z : Type 0} (heap : HeapShown) (all lent : List (Vec Object Z)) → lent ≡ all
    → AreObjectsOf heap (map (λ (w : Vec Object Z). w.items) all) → AreObjectsOf heap (map (λ (w : Vec Object Z). w.items) lent)
objects_lent {Z} heap all lent same are =
    subst (λ (l : List (Vec Object Z)). AreObjectsOf heap (map (λ (w : Vec Object Z). w.items) l)) (sym same) are

-- those of the unit
pub objects_here : {Z : Type 0} (heap : HeapShown) (all : List (Vec Object Z)) (v : Vec Object Z) (n : ℕ)
    → AreObjectsOf heap (map (λ (w : Vec Object Z). w.items) all) → n < length all → v ≡ get_or all n v
    → AreLiveObjects heap n v.items
objects_here {Z} heap all v n are low is =
    are.each n v.items
    (row_in_map (λ (w : Vec Object Z). w.items) all n v (slice_get_read all (length all) n v refl low is))

-- ---- passes
module _ (heap : HeapShown) (tickets : List CallerShown) (found : EachAt (IsTicketFound heap) tickets) where
  pub found_callers : length tickets ≡ heap.opening.callers → AreAllCallers heap tickets
  found_callers many = record { many = many; each = λ k t e. let f = found k t e in (f.table, f.caller) }

  module _ {G : Type 0} {gate : Ghosts G} where
    first_pass : (k : ℕ) (p : Pass G gate) → IsTicketFound heap k p.ticket → p.receipts.items ≡ [] → IsFirstPass heap p
    first_pass k p f none = record {
      own = record { own = f.table; whole = none ∙ sym f.receipts };
      unanswered = record { calls = f.calls; receipts = f.receipts };
      uncut = f.cuts;
    }

    -- those of tickets that were answered nothing, with no receipt
    pub found_passes : (ps : List (Pass G gate)) → map (λ (p : Pass G gate). p.ticket) ps ≡ tickets
        → All (λ (p : Pass G gate). p.receipts.items ≡ []) ps → All (IsFirstPass heap) ps
    found_passes ps are none =
        all_at (IsFirstPass heap) ps (λ i p e. first_pass i p
        (found i p.ticket (sym (ap (λ (l : List CallerShown). slice_get l i) are) ∙ row_in_map (λ (q : Pass G gate). q.ticket) ps i p e))
        (all_gives (λ (q : Pass G gate). q.receipts.items ≡ []) ps i p none e))

-- ---- the advancer
module _ (heap : HeapShown) (a : AdvShown) (found : IsAdvancerFound heap a) where
  pub found_of_layout : (l : Shape) → l ≡ heap.opening.layout → IsOfLayout l a.known
  found_of_layout l same = record {
    units = found.units ∙ ap units_of (sym same);
    room = found.room ∙ ap (λ (s : Shape). s.slots) (sym same);
    lists = found.lists;
  }

  pub found_rests : IsAtRest a.known
  found_rests = record { part = found.part; turn = found.turn }

  pub found_advancer : (regions : List RegionShown) → AreSwept heap regions a → IsAdvancerOf heap a
  found_advancer regions swept = record {
    of_heap = record { of_table = found.table; all_clean = swept.known };
    of_layout = found_of_layout heap.opening.layout refl;
  }

-- ---- all parts of a store of the heap that is named
module _ (named : HeapShown) (x : RecoveredShown) (p : Parts) (same : x.heap ≡ named) (of : ArePartsOf x p) where
  abbrev pub parts_shown : RecoveredShown
  parts_shown = record {
    heap = named;
    regions = p.regions.items;
    tickets = p.tickets.items;
    advancer = p.advancer;
    swept = x.swept;
  }

  pub parts_recovery : IsRecovery p.clock (states_of p.contents) (map (λ v. v.items) p.objects.items) parts_shown
  parts_recovery =
      subst (IsRecovery p.clock (states_of p.contents) (map (λ v. v.items) p.objects.items))
      (λ i. record {
        heap = same i;
        regions = sym of.regions i;
        tickets = sym of.tickets i;
        advancer = sym of.advancer i;
        swept = x.swept;
      })
      of.recovery

  pub parts_layout : p.layout ≡ named.opening.layout
  parts_layout = of.layout ∙ ap (λ (h : HeapShown). h.opening.layout) same

  pub parts_heap : p.heap ≡ named
  parts_heap = of.heap ∙ same

  pub parts_base : IsBaseOf named.opening p.clock (states_of p.contents)
  parts_base = record { clock_is = parts_recovery.clock_is; recovered = parts_recovery.base }

  pub parts_objects : AreObjectsOf named (map (λ v. v.items) p.objects.items)
  parts_objects = record { many = parts_recovery.object_count; each = parts_recovery.objects }

  pub parts_callers : AreAllCallers named p.tickets.items
  parts_callers = found_callers named p.tickets.items parts_recovery.tickets parts_recovery.caller_count

  pub parts_clock : p.clock ≡ p.advancer.known.clock
  parts_clock = parts_recovery.clock_is ∙ sym parts_recovery.advancer.clock

  module _ (swept : x.swept ≡ true) where
    pub parts_swept : AreRegionsSwept named p.regions.items
    parts_swept = record {
      many = parts_recovery.unit_count;
      found = parts_recovery.regions;
      swept = (parts_recovery.swept swept).each_unit;
    }

    pub parts_advancer : IsAdvancerOf named p.advancer
    parts_advancer = found_advancer named p.advancer parts_recovery.advancer p.regions.items (parts_recovery.swept swept)
