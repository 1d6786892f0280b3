-- What a region shows that was opened from what was found, and that is swept.
use Rattle.std.proofs.Common.{◌≡◌, ℕ, ◌+◌, ◌<◌, List, [], ◌∷◌, ◌++◌, Bool, true, false, ap, sym, ◌∙◌, subst, refl, inl, inr, arith}
use Rattle.std.specs.Prelude.{if◌then◌else◌}
use Rattle.std.specs.List.{range_with_len}
use Rattle.mont_base.specs.declared.record.Held.{Held}
use Rattle.mont_base.specs.Image.{records_of}
use Rattle.mont_base.specs.Layout.{units_of}
use Rattle.core_steps.specs.Closing.{without_lost}
use Rattle.core_steps.specs.Opened.{slots_beyond}
use Rattle.core_steps.specs.Stages.{is_empty}
use Rattle.mont_laws.specs.Records.{without_slot}
use Rattle.heap_rule.specs.declared.rule.Opening.{Opening}
use Rattle.heap_rule.specs.declared.views.UnitKnown.{UnitKnown}
use Rattle.heap_rule.specs.Views.{first_unit, clean_at, is_among, unit_closed, unit_persisted}
use Rattle.heap.specs.HeapShown.{HeapShown, UnitShown}
use Rattle.slots.specs.RegionBeginning.{BeginsWith, first_books, greatest, identities_in, serial_at_first}
use Rattle.slots.specs.Books.{RegionShown, BooksShown, Agrees, AreBooks}
use Rattle.slots.specs.Sweeping.{MaySweep, IsSweepStage, IsSweeping, WasCutSweeping, sweeping_at, swept_from, swept}
use Rattle.found_regions.proofs.LostSlots.{records_same}
use Rattle.found_regions.specs.FoundRegion.{IsRegionFound, RegionsAreFound, SweepsKeepRegions, records_found}
use Rattle.found_regions.proofs.Cleaned.{in_range, kept_among, among_first}

-- ---- a unit that was found
begins : (heap : HeapShown) (u : ℕ) → let o : Opening = heap.opening in
    BeginsWith (first_unit o u).part (records_of o.layout o.words u) (slots_beyond o.layout o.words u)
begins heap u = record {
  rests = record { stage = refl; written = refl; writing = refl };
  frozen = refl;
  history = refl;
  records_are = refl;
  retired = refl;
  lost_are = refl;
}

pub begins_found : (heap : HeapShown) (u : ℕ) (seat : UnitShown) (records : List Held) (lost : List ℕ)
    → seat ≡ record { table = heap.table; known = first_unit heap.opening u } → records ≡ records_found heap u
    → lost ≡ slots_beyond heap.opening.layout heap.opening.words u → BeginsWith seat.known.part records lost
begins_found heap u seat records lost is records_are lost_are =
    subst (λ (x : UnitShown × List Held × List ℕ). BeginsWith x.0.known.part x.1 x.2)
    (λ i. (sym is i, sym records_are i, sym lost_are i)) (begins heap u)

-- a unit without a slot beyond the cut is clean from the first
clean_found : (o : Opening) (u : ℕ) → u < units_of o.layout → slots_beyond o.layout o.words u ≡ [] → is_among (clean_at o) u ≡ true
clean_found o u low none =
    kept_among (λ (v : ℕ). is_empty (slots_beyond o.layout o.words v)) (range_with_len 0 (units_of o.layout)) u
    (subst (λ (v : ℕ). is_among (range_with_len 0 (units_of o.layout)) v ≡ true) (omega arith) (in_range (units_of o.layout) 0 u low))
    (ap is_empty none)

pub region_found : (heap : HeapShown) (u : ℕ) (seat : UnitShown) (records : List Held) (lost : List ℕ) (r : RegionShown)
    → u < units_of heap.opening.layout → seat ≡ record { table = heap.table; known = first_unit heap.opening u }
    → records ≡ records_found heap u → lost ≡ slots_beyond heap.opening.layout heap.opening.words u → Agrees r → r.seat ≡ seat
    → r.books ≡ first_books heap.opening.layout u records lost → IsRegionFound heap u r
region_found heap u seat records lost r low is records_are lost_are agrees shows books =
    let held_is : r.seat.known ≡ first_unit heap.opening u = ap (λ (x : UnitShown). x.known) (shows ∙ is) in
    record {
      of_heap = record {
        table = ap (λ (x : UnitShown). x.table) (shows ∙ is);
        layout = ap (λ (b : BooksShown). b.layout) books;
      };
      of_unit = ap (λ (h : UnitKnown). h.unit) held_is;
      agrees = agrees;
      running = ap (λ (b : BooksShown). b.halted) books;
      sweeps = subst (λ (b : Bool). IsSweepStage b r.seat.known.part) (sym (ap (λ (b : BooksShown). b.sweeping) books))
          (ap (λ (h : UnitKnown). h.part.stage) held_is);
      records = ap (λ (h : UnitKnown). h.part.records) held_is;
      history = ap (λ (h : UnitKnown). h.part.history) held_is;
      written = ap (λ (h : UnitKnown). h.part.written) held_is;
      writing = ap (λ (h : UnitKnown). h.part.writing) held_is;
      home = ap (λ (h : UnitKnown). h.turn) held_is;
      identity = ap (λ (b : BooksShown). b.identity) books ∙ ap (λ (rs : List Held). greatest (identities_in rs) + 1) records_are;
      serial = ap (λ (b : BooksShown). b.serial) books ∙ ap (serial_at_first heap.opening.layout u) records_are;
      clean = λ none. subst (λ (h : UnitKnown). is_among h.clean u ≡ true) (sym held_is)
          (clean_found heap.opening u low (sym lost_are ∙ (sym (ap (λ (b : BooksShown). b.lost) books) ∙ none)));
    }

-- ---- a unit that is swept
module _ (heap : HeapShown) (u : ℕ) (r : RegionShown) (k : IsRegionFound heap u r) where
  records_stay : (slot : ℕ) (rest : List ℕ) → r.books.lost ≡ slot ∷ rest
      → without_slot slot r.seat.known.part.records ≡ r.seat.known.part.records
  records_stay slot rest lost =
      let p = r.seat.known.part in
      records_same p.records p.retired slot rest p.written p.history p.frozen r.books
      (subst (λ (l : List ℕ). AreBooks p.records p.retired l p.written p.history p.frozen r.books) (sym k.agrees.1.lost_are ∙ lost)
      k.agrees.1)

  -- what a sweep leaves as it was
  record IsKeptUnit (held : UnitKnown) : Type 0 where
    unit : held.unit ≡ r.seat.known.unit
    records : held.part.records ≡ r.seat.known.part.records
    history : held.part.history ≡ r.seat.known.part.history
    written : held.part.written ≡ r.seat.known.part.written
    writing : held.part.writing ≡ r.seat.known.part.writing
    turn : held.turn ≡ r.seat.known.turn

  record IsKeptBooks (books : BooksShown) : Type 0 where
    layout : books.layout ≡ r.books.layout
    halted : books.halted ≡ r.books.halted
    identity : books.identity ≡ r.books.identity
    serial : books.serial ≡ r.books.serial

  found_still : (held : UnitKnown) (books : BooksShown) → IsKeptUnit held → IsKeptBooks books
      → (let now : RegionShown = record { seat = record r.seat { known = held }; books = books } in
      Agrees now → MaySweep now → (books.lost ≡ [] → is_among held.clean u ≡ true) → IsRegionFound heap u now)
  found_still held books h b agrees may clean = record {
    of_heap = record { table = k.of_heap.table; layout = b.layout ∙ k.of_heap.layout };
    of_unit = h.unit ∙ k.of_unit;
    agrees = agrees;
    running = b.halted ∙ k.running;
    sweeps = may;
    records = h.records ∙ k.records;
    history = h.history ∙ k.history;
    written = h.written ∙ k.written;
    writing = h.writing ∙ k.writing;
    home = h.turn ∙ k.home;
    identity = b.identity ∙ k.identity;
    serial = b.serial ∙ k.serial;
    clean = clean;
  }

  -- its label is closed, or was before
  abbrev closed_of : Bool → ℕ → UnitKnown
  closed_of b slot = if b then r.seat.known else unit_closed r.seat.known slot

  kept_closed : (b : Bool) (slot : ℕ) → IsKeptUnit (closed_of b slot)
  kept_closed true slot = record { unit = refl; records = refl; history = refl; written = refl; writing = refl; turn = refl }
  kept_closed false slot = record { unit = refl; records = refl; history = refl; written = refl; writing = refl; turn = refl }

  -- ---- closed durably
  kept_persisted : (b : Bool) (slot : ℕ) (rest : List ℕ) → r.books.lost ≡ slot ∷ rest
      → IsKeptUnit (unit_persisted (closed_of b slot) slot)
  kept_persisted b slot rest lost = let h = kept_closed b slot in record {
    unit = h.unit;
    records = ap (without_slot slot) h.records ∙ records_stay slot rest lost;
    history = h.history;
    written = h.written;
    writing = h.writing;
    turn = h.turn;
  }

  clean_persisted : (held : UnitKnown) (slot : ℕ) → held.unit ≡ u → without_lost slot held.part.lost ≡ []
      → is_among (unit_persisted held slot).clean u ≡ true
  clean_persisted held slot unit none =
      ap (λ (l : List ℕ). is_among (if is_empty l then held.unit ∷ held.clean else held.clean) u) none
      ∙ subst (λ (v : ℕ). is_among (held.unit ∷ held.clean) v ≡ true) unit (among_first held.unit held.clean)

  swept_whole : (lost : List ℕ) → r.books.lost ≡ lost → Agrees (swept_from r lost) → MaySweep (swept_from r lost)
      → IsRegionFound heap u (swept_from r lost)
  swept_whole [] e agrees may = k
  swept_whole (slot ∷ rest) e agrees may =
      let held = closed_of r.books.sweeping slot in
      found_still (unit_persisted held slot) (record r.books { free = r.books.free ++ slot ∷ []; lost = rest; sweeping = false })
      (kept_persisted r.books.sweeping slot rest e) (record { layout = refl; halted = refl; identity = refl; serial = refl }) agrees may
      (λ none. clean_persisted held slot ((kept_closed r.books.sweeping slot).unit ∙ k.of_unit) (sym agrees.1.lost_are ∙ none))

  pub region_swept : (now : RegionShown) → now ≡ swept r → Agrees now → MaySweep now → IsRegionFound heap u now
  region_swept now is agrees may = subst (IsRegionFound heap u) (sym is)
      (swept_whole r.books.lost refl (subst Agrees is agrees) (subst MaySweep is may))

  -- ---- where it was cut
  begun_first : (slot : ℕ) (rest : List ℕ) → r.books.lost ≡ slot ∷ rest → Agrees (sweeping_at r slot) → MaySweep (sweeping_at r slot)
      → IsRegionFound heap u (sweeping_at r slot)
  begun_first slot rest e agrees may =
      found_still (closed_of r.books.sweeping slot) (record r.books { sweeping = true }) (kept_closed r.books.sweeping slot)
      (record { layout = refl; halted = refl; identity = refl; serial = refl }) agrees may
      (λ none. absurd (let first = e in let all = none in cc (first, all)))

  begun_whole : (now : RegionShown) (lost : List ℕ) → r.books.lost ≡ lost → IsSweeping r now lost → Agrees now → MaySweep now
      → IsRegionFound heap u now
  begun_whole now [] e is agrees may = absurd is
  begun_whole now (slot ∷ rest) e is agrees may = subst (IsRegionFound heap u) (sym is)
      (begun_first slot rest e (subst Agrees is agrees) (subst MaySweep is may))

  pub region_cut : (now : RegionShown) → WasCutSweeping r now → Agrees now → MaySweep now → IsRegionFound heap u now
  region_cut now (inl same) agrees may = subst (IsRegionFound heap u) (sym same) k
  region_cut now (inr is) agrees may = begun_whole now r.books.lost refl is agrees may

pub regions_are_found : RegionsAreFound
regions_are_found = region_found

pub sweeps_keep_regions : SweepsKeepRegions
sweeps_keep_regions heap u old new k agrees may = record {
  closed = λ is. region_swept heap u old k new is agrees may;
  cut = λ is. region_cut heap u old k new is agrees may;
}
