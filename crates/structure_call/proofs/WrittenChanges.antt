-- The changes of an operation are written one after the other.
use Rattle.std.proofs.Common.{◌≡◌, ℕ, ◌+◌, ◌<◌, ◌≤◌, Bool, true, false, cond, List, [], ◌∷◌, ◌++◌, length, get_or, take, append_assoc, append-nil, length-append, refl, sym, ap, ◌∙◌, subst, arith}
use Rattle.std.specs.Prelude.{Option, Some, None}
use Rattle.std.proofs.lemmas.List.{take_more}
use Rattle.std.proofs.lemmas.List.Elements.{All-get_or}
use Rattle.std.proofs.lemmas.List.Sums.{sum_by-take-le}
use Rattle.mont_base.specs.declared.record.Change.{Change}
use Rattle.mont_base.specs.declared.record.Held.{Held}
use Rattle.core_steps.specs.declared.parts.UnitPart.{UnitPart}
use Rattle.heap.specs.HeapShown.{HeapShown, UnitShown}
use Rattle.slots.specs.Books.{BooksShown, RegionShown}
use Rattle.slots.specs.WrittenRecords.{CanPut, NamesLive, record_by, inserts, is_insert, ends_version, has_serial, serial_in}
use Rattle.op_guard.specs.declared.guard.Guard.{Guard}
use Rattle.op_guard.specs.Guarding.{HasChanged}
use Rattle.op_guard.specs.Regions.{IsUnderWay}
use Rattle.structure_call.specs.Carrying.{CanPutAll, HasSerialLeft, HasWrittenAll, records_by}
use Rattle.structure_call.proofs.ChangeRecords.{inserts_more, next_is, records_more, last_more, serial_more}

module _ (heap : HeapShown) (old : RegionShown) (guard : Guard) where
  -- none yet
  pub none_written : IsUnderWay heap guard old → HasWrittenAll heap old old guard guard [] None
  none_written under = record {
    slots = [];
    each = refl;
    last_is = refl;
    guard_is = ap (λ (n : ℕ). record guard { written = n }) (omega arith);
    under_way = under;
    part = λ i. record old.seat.known.part {
      writing = under.registered.whole i;
      written = sym (append-nil old.seat.known.part.written) i;
    };
    of_unit = refl;
    layout = refl;
    identity = omega arith;
    serial = refl;
  }

  module _ (mid : RegionShown) (g : Guard) (cs : List Change) (last : Option ℕ) (k : HasWrittenAll heap old mid guard g cs last) where
    same_records : mid.seat.known.part.records ≡ old.seat.known.part.records
    same_records = ap (λ (p : UnitPart). p.records) k.part

    -- one more
    module _ (new : RegionShown) (h : Guard) (c : Change) (slot : ℕ) (changed : HasChanged heap mid new g h c slot) where
      written_is : record_by mid.books.unit mid.books.identity mid.seat.known.part.records c g.epoch slot
          ≡ record_by old.books.unit (old.books.identity + inserts cs) old.seat.known.part.records c guard.epoch slot
      written_is = λ i. record_by (k.of_unit i) (k.identity i) (same_records i) c ((ap (λ (x : Guard). x.epoch) k.guard_is) i) slot

      part_is : new.seat.known.part ≡ record old.seat.known.part {
        writing = None;
        written = old.seat.known.part.written
            ++ records_by old.books.unit old.books.identity old.seat.known.part.records guard.epoch (cs ++ c ∷ [])
            (k.slots ++ slot ∷ []);
      }
      part_is =
          ap (λ (s : UnitShown). s.known.part) changed.put.seat_is
          ∙ (λ i. record (k.part i) { writing = None; written = (k.part i).written ++ written_is i ∷ [] })
          ∙ ap (λ (ws : List Held). record old.seat.known.part { writing = None; written = ws })
          (append_assoc old.seat.known.part.written
          (records_by old.books.unit old.books.identity old.seat.known.part.records guard.epoch cs k.slots) _
          ∙ ap (λ (ws : List Held). old.seat.known.part.written ++ ws)
          (sym (records_more old.books.unit old.books.identity old.seat.known.part.records guard.epoch cs k.slots c slot k.each)))

      pub more_written : HasWrittenAll heap old new guard h (cs ++ c ∷ []) (Some slot)
      more_written = record {
        slots = k.slots ++ slot ∷ [];
        each =
            let each = k.each in
            let longer = length-append k.slots (slot ∷ []) in
            let more = length-append cs (c ∷ []) in omega arith;
        last_is = sym (last_more k.slots slot);
        guard_is =
            changed.counted
            ∙ (λ i. record (k.guard_is i) { written = (k.guard_is i).written + 1 })
            ∙ ap (λ (n : ℕ). record guard { written = n })
            (let more = length-append cs (c ∷ []) in omega arith);
        under_way = changed.under_way;
        part = part_is;
        of_unit = ap (λ (b : BooksShown). b.unit) changed.put.books_are ∙ k.of_unit;
        layout = ap (λ (b : BooksShown). b.layout) changed.put.books_are ∙ k.layout;
        identity =
            ap (λ (b : BooksShown). b.identity) changed.put.books_are
            ∙ next_is mid.books.identity c
            ∙ (let before = k.identity in let more = inserts_more cs c in omega arith);
        serial =
            ap (λ (b : BooksShown). b.serial) changed.put.books_are
            ∙ (λ i. cond (has_serial (k.layout i) (k.of_unit i) c) (serial_in c + 1) (k.serial i))
            ∙ sym (serial_more old.books.layout old.books.unit old.books.serial cs c);
      }

  -- the one at this place
  pub next_written : (changes : List Change) (mid new : RegionShown) (g h : Guard) (last : Option ℕ) (i slot : ℕ) (d : Change)
      → i < length changes → HasWrittenAll heap old mid guard g (take i changes) last
      → HasChanged heap mid new g h (get_or changes i d) slot → HasWrittenAll heap old new guard h (take (i + 1) changes) (Some slot)
  next_written changes mid new g h last i slot d low k changed =
      subst (λ (cs : List Change). HasWrittenAll heap old new guard h cs (Some slot)) (sym (take_more changes i d low))
      (more_written mid g (take i changes) last k new h (get_or changes i d) slot changed)

  -- the next change may be written
  module _ (changes : List Change) (can : CanPutAll old.books old.seat.known.part.records changes) where
    room_for : (i : ℕ) (d : Change) → i < length changes
        → inserts (take i changes) + cond (is_insert (get_or changes i d)) 1 0 ≤ inserts changes
    room_for i d low =
        let here : inserts (take (i + 1) changes) ≡ inserts (take i changes) + cond (is_insert (get_or changes i d)) 1 0 =
        ap inserts (take_more changes i d low) ∙ inserts_more (take i changes) (get_or changes i d) in
        let few = sum_by-take-le (λ (x : Change). cond (is_insert x) 1 0) changes (i + 1) in
        omega arith

    pub may_put : (mid : RegionShown) (g : Guard) (last : Option ℕ) (i : ℕ) (d : Change) → i < length changes
        → HasWrittenAll heap old mid guard g (take i changes) last
        → CanPut mid.books mid.seat.known.part.records (get_or changes i d)
    may_put mid g last i d low k =
        let c = get_or changes i d in
        let records = same_records mid g (take i changes) last k in
        record {
          names = subst (λ (rs : List Held). NamesLive rs c) (sym records)
              (All-get_or (NamesLive old.seat.known.part.records) changes i d low can.names);
          identity = λ (new : is_insert c ≡ true).
              let one : cond {A = ℕ} (is_insert c) 1 0 ≡ 1 = ap (λ (t : Bool). cond t 1 0) new in
              let room = room_for i d low in
              let left = can.identities in
              let at = k.identity in omega arith;
          version = ap (λ (rs : List Held). ends_version rs c) records
              ∙ All-get_or (λ (x : Change). ends_version old.seat.known.part.records x ≡ false) changes i d low can.versions;
          serial = λ has. All-get_or (HasSerialLeft old.books) changes i d low can.serials
              ((λ j. has_serial (sym k.layout j) (sym k.of_unit j) c) ∙ has);
        }
