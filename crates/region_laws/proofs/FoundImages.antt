-- What recovery finds of a unit in an image that it accepts is what a region can begin with.
use Rattle.std.proofs.Common.{◌≡◌, ℕ, ◌*◌, ◌<◌, ◌≤◌, List, [], ◌∷◌, map, sym, refl, ap, ◌∙◌, subst, arith, Bool, true, false}
use Rattle.std.specs.Prelude.{◌≢◌, ◌&&◌, IsTrue, All, AllPairs, nat_le, nat_lt, Option, Some, None, slice_index, if◌then◌else◌}
use Rattle.std.specs.FinMap as finite
use Rattle.std.specs.List.{Contains}
use Rattle.std.proofs.lemmas.Option.{same_Some}
use Rattle.std.proofs.lemmas.Bool.Decides.{nat_tests}
use Rattle.std.proofs.lemmas.List.Elements.{All-cons, All-nil}
use Rattle.std.proofs.lemmas.List.Kept.{AllPairs-filter}
use Rattle.mont_base.specs.declared.constants.TheConstants.{LAST}
use Rattle.mont_base.specs.declared.record.Held.{Held}
use Rattle.mont_base.specs.Bodies.{item_in, is_clean}
use Rattle.mont_base.specs.Image.{slots_of, records_of, record_at, record_read, words_at, cut_of, epoch_at, IsWellFormed}
use Rattle.mont_base.specs.Layout.{Shape, units_of, total_of, unit_of_slot, kind_of}
use Rattle.mont_base.specs.Record.{reading}
use Rattle.mont_base.specs.State.{State, MapOf, QueueOf, GraphOf}
use Rattle.mont_base.specs.Structure.{is_serial}
use Rattle.mont_base.specs.Versions.{object_of}
use Rattle.mont_laws.specs.Records.{AreApart}
use Rattle.mont_laws.specs.SlotReadings.{IsRecordOf}
use Rattle.mont_laws.specs.Shows.{live_things, Shows}
use Rattle.mont_laws.specs.Structures.{item_for, HasStructure}
use Rattle.mont_laws.proofs.Agreement.{objects_show}
use Rattle.mont_laws.proofs.Holders.{fitted, held_live}
use Rattle.mont_laws.proofs.LiveObjects.{live_records, live_record}
use Rattle.mont_laws.proofs.Mapped.{range_rises}
use Rattle.mont_laws.proofs.SameKind.{is_queue_by_state}
use Rattle.mont_laws.proofs.Members.{first_element, later_element, kept_element, all_elements}
use Rattle.mont_laws.proofs.SettledWords.{well_formed_slots_are_read}
use Rattle.mont_laws.proofs.UnitRecords.{read_of_listed}
use Rattle.mont_laws.proofs.UnitSlots.{unit_of_member, slots_have_units}
use Rattle.core_steps.specs.Opened.{slots_beyond}
use Rattle.core_steps.proofs.UnitCuts.{listed_apart}
use Rattle.slots.specs.RegionBeginning.{AreFound, serial_of, live_serials}
use Rattle.slots.specs.Serials.{is_queue}
use Rattle.region_laws.specs.FoundImages.{ImagesAreFound}

-- the serial of a body is its first word
first_word : (body : List ℕ) (serial item : ℕ) → item_in body ≡ Some (serial, item) → slice_index body 0 ≡ serial
first_word body serial item e = by (is_clean 2 body) e
  where
    by : (b : Bool) → (let e : ℕ × ℕ = (slice_index body 0, slice_index body 1) in (if b then Some e else None) ≡ Some (serial, item))
        → slice_index body 0 ≡ serial
    by true f =
        let e : ℕ × ℕ = (slice_index body 0, slice_index body 1) in
        let d : ℕ × ℕ = (serial, item) in
        ap (λ (x : ℕ × ℕ). x.0) (same_Some e d f)
    by false f = absurd (cc)

-- a slot whose record is read is within the cut
read_within : (s : Shape) (image : List ℕ) (slot : ℕ) (r : Held) → record_at s image slot ≡ Some r → epoch_at image slot ≤ cut_of image
read_within s image slot r e = by (nat_le 1 (epoch_at image slot)) (nat_le (epoch_at image slot) (cut_of image)) refl e
  where
    by : (a b : Bool) → nat_le (epoch_at image slot) (cut_of image) ≡ b
        → (if a && b then record_read slot (reading (unit_of_slot s slot) (words_at image slot)) else None) ≡ Some r
        → epoch_at image slot ≤ cut_of image
    by true true f g = grind (arith, nat_tests)
    by true false f g = absurd (cc)
    by false b f g = absurd (cc)

-- the serials of live items of a queue
module _ (rs : List Held) (apart : AreApart rs) (value_of : ℕ → Option ℕ) (shown : Shows (live_things item_for rs) value_of) where
  serial_last : (r : Held) → Contains (live_records rs) r → slice_index r.body 0 ≤ LAST
  serial_last r c = by (item_for r.body) refl
    where
      by : (o : Option (ℕ × ℕ)) → item_for r.body ≡ o → slice_index r.body 0 ≤ LAST
      by None e = absurd (shown.readable r.label.identity (held_live item_for rs r.label.identity r (live_record rs apart r c) ∙ ap Some e))
      by (Some e) f =
          let fits = fitted (λ (x : ℕ × ℕ). is_serial x.0) (item_in r.body) e f in
          let word : slice_index r.body 0 ≡ e.0 = first_word r.body e.0 e.1 fits.0 in
          let low : e.0 ≤ LAST = at (nat_le 1 e.0) (nat_le e.0 LAST) refl fits.1 in
          omega arith
        where
          at : (a b : Bool) → nat_le e.0 LAST ≡ b → (a && b) ≡ true → e.0 ≤ LAST
          at true true g h = grind (arith, nat_tests)
          at true false g h = absurd (cc)
          at false b g h = absurd (cc)

  serials_last : (qs : List Held) → ((r : Held) → Contains qs r → Contains (live_records rs) r)
      → All (λ n. n ≤ LAST) (map serial_of (map object_of qs))
  serials_last [] live = All-nil (λ (n : ℕ). n ≤ LAST)
  serials_last (r ∷ qs) live = All-cons (λ (n : ℕ). n ≤ LAST) (slice_index r.body 0) (map serial_of (map object_of qs))
      (serial_last r (live r (first_element r qs))) (serials_last qs (λ q c. live q (later_element r qs q c)))

module _ (s : Shape) (image : List ℕ) (unit : ℕ) (well : IsWellFormed s image) (low : unit < units_of s) where
  some : 1 ≤ s.slots
  some = let least = well.layout.some_slots in omega arith

  apart : AreApart (records_of s image unit)
  apart = listed_apart s image unit some (well.apart unit low)

  record_valid : (r : Held) → Contains (records_of s image unit) r → IsRecordOf unit r
  record_valid r c =
      let read = read_of_listed s image unit r some c in
      let inside : r.slot < total_of s = (slots_have_units s r.slot some).1 (subst (λ (u : ℕ). u < units_of s) (sym read.0) low) in
      let has = ((well_formed_slots_are_read s image r.slot well inside).some r).0 read.1 in
      subst (λ (u : ℕ). IsRecordOf u r) read.0 has.spelled.valid

  abbrev is_beyond : ℕ → Bool
  is_beyond slot = nat_lt (cut_of image) (epoch_at image slot)

  lost_beyond : (slot : ℕ) → Contains (slots_beyond s image unit) slot → (unit_of_slot s slot ≡ unit) × (cut_of image < epoch_at image slot)
  lost_beyond slot c = let k = kept_element is_beyond slot (slots_of s unit) c in (unit_of_member s unit slot some k.0, over slot k.1)
    where
      over : (slot : ℕ) → is_beyond slot ≡ true → cut_of image < epoch_at image slot
      over slot e = grind (arith, nat_tests)

  lost_rise : AllPairs (λ (a b : ℕ). a < b) (slots_beyond s image unit)
  lost_rise = AllPairs-filter (λ (a b : ℕ). a < b) is_beyond (slots_of s unit) (range_rises (unit * s.slots) s.slots)

  serials_found : (state : State) → IsTrue (is_queue s unit) → HasStructure s unit (records_of s image unit) state
      → All (λ n. n ≤ LAST) (live_serials (records_of s image unit))
  serials_found (MapOf m) queue h = absurd (let e = is_queue_by_state (kind_of s unit) (MapOf m) h.of_unit in cc (e, queue))
  serials_found (QueueOf items) queue h = serials_last (records_of s image unit) apart (finite.get h.things.0) h.things.1
      (live_records (records_of s image unit)) (λ r c. c)
  serials_found (GraphOf g) queue h = absurd (let e = is_queue_by_state (kind_of s unit) (GraphOf g) h.of_unit in cc (e, queue))

  image_found : AreFound s unit (records_of s image unit) (slots_beyond s image unit)
  image_found = record {
    valid = all_elements (IsRecordOf unit) (records_of s image unit) record_valid;
    apart = apart;
    of_unit = all_elements (λ (r : Held). unit_of_slot s r.slot ≡ unit) (records_of s image unit)
        (λ r c. (read_of_listed s image unit r some c).0);
    lost_apart = λ i j d before within e. let rise = lost_rise i j d before within in absurd (omega arith);
    lost_of_unit = all_elements (λ slot. unit_of_slot s slot ≡ unit) (slots_beyond s image unit) (λ slot c. (lost_beyond slot c).0);
    beside = all_elements (λ (r : Held). All (λ slot. r.slot ≢ slot) (slots_beyond s image unit)) (records_of s image unit) (λ r c.
        all_elements (λ slot. r.slot ≢ slot) (slots_beyond s image unit) (λ slot d e.
        let within = read_within s image r.slot r (read_of_listed s image unit r some c).1 in
        let over : cut_of image < epoch_at image r.slot =
        subst (λ (n : ℕ). cut_of image < epoch_at image n) (sym e) (lost_beyond slot d).1 in
        absurd (omega arith)));
    serials = λ queue. let made = well.defined unit low in
        serials_found made.0 queue (objects_show s unit (records_of s image unit) apart made.0 made.1);
  }

pub images_are_found : ImagesAreFound
images_are_found s image unit well low = image_found s image unit well low
