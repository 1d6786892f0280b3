-- What the roles of slots tell of a unit's records and of the slots that it writes, closes or has lost.
use Rattle.std.proofs.Common.{◌≡◌, ◌≢◌, ℕ, ◌+◌, ◌<◌, ◌≤◌, List, length, get_or, sym, refl, ap, ◌∙◌, subst, ⊎_elim, arith}
use Rattle.std.specs.Prelude.{slice_get, slice_index, Option, Some, None, All}
use Rattle.std.specs.List.{Contains}
use Rattle.std.proofs.lemmas.Bool.{eq-eqb}
use Rattle.std.proofs.lemmas.Option.{slice_get_within}
use Rattle.mont_base.specs.declared.constants.TheConstants.{FIELDS}
use Rattle.mont_base.specs.declared.record.Held.{Held}
use Rattle.mont_base.specs.Layout.{Shape, units_of, total_of, word_of, unit_of_slot}
use Rattle.mont_base.specs.Image.{words_at, epoch_at}
use Rattle.mont_laws.specs.SlotReadings.{held_words, IsRecordOf}
use Rattle.mont_laws.specs.SlotImages.{IsEpochOf, closed_if}
use Rattle.mont_laws.specs.Retiring.{HaveNewSlots}
use Rattle.mont_laws.proofs.Members.{all_elements}
use Rattle.mont_laws.proofs.SlotWords.{word_at, first_at}
use Rattle.mont_laws.proofs.UnitSlots.{slots_have_units}
use Rattle.core_steps.specs.declared.parts.UnitPart.{UnitPart}
use Rattle.core_steps.specs.declared.parts.UnitStage.{UnitStage}
use Rattle.core_steps.specs.declared.parts.UnitStage.TheVariants.{Within, Closing}
use Rattle.core_steps.specs.declared.parts.Writing.{Writing}
use Rattle.core_steps.specs.Stages.{is_closing, epoch_of}
use Rattle.core_steps.specs.Storing.{IsFreeSlot, LooksFree}
use Rattle.core_steps.specs.Roles.{Role, Free, Unfinished, Written, Kept, Lost, IsFree, IsUnfinished, IsWritten, IsKept, IsLost, SlotFits, Says, HasSlots}

-- the epoch in which a unit writes is one
pub within_same : (stage : UnitStage) (e f : ℕ) → stage ≡ Within e → stage ≡ Within f → e ≡ f
within_same stage e f a b = ap epoch_of (sym a ∙ b)

module _ (s : Shape) (now : ℕ) (cur dur : List ℕ) (units : List UnitPart) (u : ℕ) (p : UnitPart)
    (h : HasSlots s now cur dur units) (at : slice_get units u ≡ Some p) where
  -- what the part says of a slot fits its words
  pub said_fits : (slot : ℕ) (x : Role) → Says p slot x → SlotFits now u x (words_at cur slot) (words_at dur slot)
  said_fits slot x k =
      let place = (h.shows u p at).says slot x k in
      subst (λ (z : ℕ × Role). SlotFits now z.0 z.1 (words_at cur slot) (words_at dur slot)) (λ i. (place.of_unit i, place.is i))
      (h.fits slot place.inside)

  -- and is one thing
  pub said_once : (slot : ℕ) (x y : Role) → Says p slot x → Says p slot y → x ≡ y
  said_once slot x y k l = sym ((h.shows u p at).says slot x k).is ∙ ((h.shows u p at).says slot y l).is

  -- ---- records
  pub record_role : (r : Held) → Contains p.records r → Says p r.slot (Kept r (is_closing p.stage r.slot))
  record_role r k = (refl, refl, k)

  -- its words fit a record
  pub record_fits : (r : Held) → Contains p.records r
      → IsKept now u r (is_closing p.stage r.slot) (words_at cur r.slot) (words_at dur r.slot)
  record_fits r k = said_fits r.slot (Kept r (is_closing p.stage r.slot)) (record_role r k)

  -- its slot is one of the store's
  pub record_inside : (r : Held) → Contains p.records r → r.slot < total_of s
  record_inside r k = ((h.shows u p at).says r.slot (Kept r (is_closing p.stage r.slot)) (record_role r k)).inside

  -- and of the unit's
  pub record_unit : (r : Held) → Contains p.records r → unit_of_slot s r.slot ≡ u
  record_unit r k = ((h.shows u p at).says r.slot (Kept r (is_closing p.stage r.slot)) (record_role r k)).of_unit

  -- it is a record that the unit may hold
  pub record_valid : (r : Held) → Contains p.records r → IsRecordOf u r
  record_valid r k = (record_fits r k).valid

  -- its words are current, but for a label that is being closed
  pub record_current : (r : Held) → Contains p.records r
      → words_at cur r.slot ≡ closed_if (is_closing p.stage r.slot) (held_words r)
  record_current r k = (record_fits r k).current

  -- its durable label is its own, or none
  pub record_label : (r : Held) → Contains p.records r → IsEpochOf r (epoch_at dur r.slot)
  record_label r k = subst (IsEpochOf r) (first_at dur r.slot) (record_fits r k).label

  -- once two epochs old it is durable
  pub record_durable : (r : Held) → Contains p.records r → r.label.epoch + 2 ≤ now → words_at dur r.slot ≡ held_words r
  record_durable r k = (record_fits r k).old

  -- and it is that old where it is being closed
  pub closing_old : (r : Held) → Contains p.records r → p.stage ≡ Closing r.slot → r.label.epoch + 2 ≤ now
  closing_old r k stage =
      (record_fits r k).due (ap (λ (z : UnitStage). is_closing z r.slot) stage ∙ eq-eqb r.slot r.slot refl)

  -- two records in one slot are one
  pub record_once : (r q : Held) → Contains p.records r → Contains p.records q → r.slot ≡ q.slot → r ≡ q
  record_once r q k l same = ap held (said_once q.slot (Kept r (is_closing p.stage q.slot)) (Kept q (is_closing p.stage q.slot))
      (same, refl, k) (refl, refl, l))
    where
      held : Role → Held
      held (Kept x closing) = x
      held _ = r

  -- ---- written slots
  pub written_fits : (w : Held) → Contains p.written w → IsWritten now u w (words_at cur w.slot) (words_at dur w.slot)
  written_fits w k = said_fits w.slot (Written w) (refl, k)

  -- their slots are the store's
  pub written_inside : (w : Held) → Contains p.written w → w.slot < total_of s
  written_inside w k = ((h.shows u p at).says w.slot (Written w) (refl, k)).inside

  -- and the unit's
  pub written_unit : (w : Held) → Contains p.written w → unit_of_slot s w.slot ≡ u
  written_unit w k = ((h.shows u p at).says w.slot (Written w) (refl, k)).of_unit

  -- they are records that the unit may hold
  pub written_valid : (w : Held) → Contains p.written w → IsRecordOf u w
  written_valid w k = (written_fits w k).valid

  -- their words are current
  pub written_current : (w : Held) → Contains p.written w → words_at cur w.slot ≡ held_words w
  written_current w k = (written_fits w k).current

  -- their epoch is the clock or the one before
  pub written_near : (w : Held) → Contains p.written w → now ≤ w.label.epoch + 1
  written_near w k = (written_fits w k).near

  -- what is written has the epoch in which the unit writes
  pub written_epoch : (e : ℕ) (w : Held) → p.stage ≡ Within e → Contains p.written w → w.label.epoch ≡ e
  written_epoch e w stage k = within_same p.stage w.label.epoch e ((h.shows u p at).wrote w k) stage

  -- and so has all of it
  pub written_epochs : (e : ℕ) → p.stage ≡ Within e → All (λ (w : Held). w.label.epoch ≡ e) p.written
  written_epochs e stage = all_elements (λ (w : Held). w.label.epoch ≡ e) p.written (λ w k. written_epoch e w stage k)

  -- no record is in a written slot
  pub written_no_record : (w r : Held) → Contains p.written w → Contains p.records r → r.slot ≢ w.slot
  written_no_record w r k l same =
      let clash : Written w ≡ Kept r (is_closing p.stage w.slot) =
      said_once w.slot (Written w) (Kept r (is_closing p.stage w.slot)) (refl, k) (same, refl, l) in absurd (cc)

  -- so they stand in slots that nothing else has
  pub new_slots : HaveNewSlots p.records p.written
  new_slots = record {
    unused = λ r w k l. written_no_record w r l k;
    apart = (h.shows u p at).written_once;
  }

  -- ---- the slot that is being written
  pub writing_fits : (w : Writing) → p.writing ≡ Some w → IsUnfinished u w (words_at cur w.slot) (words_at dur w.slot)
  writing_fits w k = said_fits w.slot (Unfinished w) (refl, k)

  -- it is one of the store's
  pub writing_inside : (w : Writing) → p.writing ≡ Some w → w.slot < total_of s
  writing_inside w k = ((h.shows u p at).says w.slot (Unfinished w) (refl, k)).inside

  -- and of the unit's
  pub writing_unit : (w : Writing) → p.writing ≡ Some w → unit_of_slot s w.slot ≡ u
  writing_unit w k = ((h.shows u p at).says w.slot (Unfinished w) (refl, k)).of_unit

  -- it is no record's
  pub writing_no_record : (w : Writing) (r : Held) → p.writing ≡ Some w → Contains p.records r → r.slot ≢ w.slot
  writing_no_record w r k l same =
      let clash : Unfinished w ≡ Kept r (is_closing p.stage w.slot) =
      said_once w.slot (Unfinished w) (Kept r (is_closing p.stage w.slot)) (refl, k) (same, refl, l) in absurd (cc)

  -- and no written slot
  pub writing_not_written : (w : Writing) (z : Held) → p.writing ≡ Some w → Contains p.written z → z.slot ≢ w.slot
  writing_not_written w z k l same =
      let clash : Unfinished w ≡ Written z = said_once w.slot (Unfinished w) (Written z) (refl, k) (same, l) in absurd (cc)

  -- and not lost
  pub writing_not_lost : (w : Writing) → p.writing ≡ Some w → Contains p.lost w.slot → ⊥
  writing_not_lost w k l =
      let clash : Unfinished w ≡ Lost (is_closing p.stage w.slot) =
      said_once w.slot (Unfinished w) (Lost (is_closing p.stage w.slot)) (refl, k) (refl, l) in absurd (cc)

  -- no word after the stored fields has a store pending
  pub writing_settled : (w : Writing) (f : ℕ) → p.writing ≡ Some w → w.stored < f → f < FIELDS
      → slice_index dur (word_of w.slot f) ≡ slice_index cur (word_of w.slot f)
  writing_settled w f k far low =
      sym (word_at dur w.slot f low) ∙ (writing_fits w k).begun.settled f far ∙ word_at cur w.slot f low

  -- and the label is closed in both memories
  pub writing_label : (w : Writing) → p.writing ≡ Some w → slice_index dur (word_of w.slot 0) ≡ slice_index cur (word_of w.slot 0)
  writing_label w k = let begun = (writing_fits w k).begun in
      sym (first_at dur w.slot) ∙ begun.was_closed ∙ sym begun.closed ∙ first_at cur w.slot

  -- ---- lost slots
  pub lost_fits : (slot : ℕ) → Contains p.lost slot → IsLost now (is_closing p.stage slot) (words_at cur slot) (words_at dur slot)
  lost_fits slot k = said_fits slot (Lost (is_closing p.stage slot)) (refl, k)

  -- they are the store's
  pub lost_inside : (slot : ℕ) → Contains p.lost slot → slot < total_of s
  lost_inside slot k = ((h.shows u p at).says slot (Lost (is_closing p.stage slot)) (refl, k)).inside

  -- and the unit's
  pub lost_unit : (slot : ℕ) → Contains p.lost slot → unit_of_slot s slot ≡ u
  lost_unit slot k = ((h.shows u p at).says slot (Lost (is_closing p.stage slot)) (refl, k)).of_unit

  -- no record is in a lost slot
  pub lost_no_record : (slot : ℕ) (r : Held) → Contains p.lost slot → Contains p.records r → r.slot ≢ slot
  lost_no_record slot r k l same =
      let clash : Lost (is_closing p.stage slot) ≡ Kept r (is_closing p.stage slot) =
      said_once slot (Lost (is_closing p.stage slot)) (Kept r (is_closing p.stage slot)) (refl, k) (same, refl, l) in absurd (cc)

  -- and nothing written
  pub lost_not_written : (slot : ℕ) (w : Held) → Contains p.lost slot → Contains p.written w → w.slot ≢ slot
  lost_not_written slot w k l same =
      let clash : Lost (is_closing p.stage slot) ≡ Written w =
      said_once slot (Lost (is_closing p.stage slot)) (Written w) (refl, k) (same, l) in absurd (cc)

  -- ---- nothing is written where no epoch is announced, or was only told
  pub none_writing : ((e : ℕ) → p.stage ≡ Within e → ⊥) → p.writing ≡ None
  none_writing out = go p.writing refl
    where
      go : (o : Option Writing) → p.writing ≡ o → o ≡ None
      go None e = refl
      go (Some w) e = absurd (out w.change.label.epoch ((h.shows u p at).writes w e))

  -- and nothing was written
  pub none_written : ((e : ℕ) → p.stage ≡ Within e → ⊥) → (w : Held) → Contains p.written w → ⊥
  none_written out w k = out w.label.epoch ((h.shows u p at).wrote w k)

  -- ---- free slots
  module _ (some : 1 ≤ s.slots) (count : length units ≡ units_of s) where
    -- a slot of the unit is one of the store's
    pub slot_inside : (slot : ℕ) → unit_of_slot s slot ≡ u → slot < total_of s
    slot_inside slot of_unit =
        (slots_have_units s slot some).1 (subst (λ (v : ℕ). v < units_of s) (sym of_unit)
        (subst (λ (n : ℕ). u < n) count (slice_get_within units u p at)))

    -- a slot that looks free is in nothing of the unit
    pub free_slot : (slot : ℕ) → LooksFree s cur dur u p slot → p.writing ≡ None → 2 ≤ now → IsFreeSlot s u p slot
    free_slot slot k none begun = record {
      of_unit = k.of_unit;
      no_record = k.no_record;
      none_written = λ w l same.
          let some_epoch = (written_valid w l).label.some_epoch in
          let first : epoch_at cur w.slot ≡ w.label.epoch =
          sym (first_at cur w.slot) ∙ ap (λ (ws : List ℕ). get_or ws 0 0) (written_current w l) in
          let closed : epoch_at cur w.slot ≡ 0 = ap (epoch_at cur) same ∙ k.closed in
          absurd (omega arith);
      not_lost = λ l.
          let beyond = (lost_fits slot l).beyond in
          let first = first_at dur slot in
          let closed = k.was_closed in
          omega arith;
    }

    -- where nothing is being written, a slot in nothing of the unit is free
    pub free_role : (slot : ℕ) → IsFreeSlot s u p slot → p.writing ≡ None → h.role slot ≡ Free
    free_role slot k none = ⊎_elim (λ (f : h.role slot ≡ Free). f) (λ (l : Says p slot (h.role slot)). by (h.role slot) l)
        ((h.shows u p at).others slot k.of_unit)
      where
        by : (x : Role) → Says p slot x → x ≡ Free
        by Free l = refl
        by (Unfinished w) l = let clash : None ≡ Some w = sym none ∙ l.1 in absurd (cc)
        by (Written w) l = absurd (k.none_written w l.1 l.0)
        by (Kept r closing) l = absurd (k.no_record r l.2 l.0)
        by (Lost closing) l = absurd (k.not_lost l.1)

    -- its words are those of a free slot
    pub free_fits : (slot : ℕ) → IsFreeSlot s u p slot → p.writing ≡ None → IsFree (words_at cur slot) (words_at dur slot)
    free_fits slot k none = subst (λ (x : Role). SlotFits now (unit_of_slot s slot) x (words_at cur slot) (words_at dur slot))
        (free_role slot k none) (h.fits slot (slot_inside slot k.of_unit))

    -- and then no word of it has a store pending
    pub free_settled : (slot f : ℕ) → IsFreeSlot s u p slot → p.writing ≡ None → f < FIELDS
        → slice_index dur (word_of slot f) ≡ slice_index cur (word_of slot f)
    free_settled slot f k none low =
        sym (word_at dur slot f low) ∙ ap (λ (ws : List ℕ). get_or ws f 0) (free_fits slot k none).settled ∙ word_at cur slot f low

    -- and it looks free
    pub slot_looks_free : (slot : ℕ) → IsFreeSlot s u p slot → p.writing ≡ None → LooksFree s cur dur u p slot
    slot_looks_free slot k none =
        let closed : epoch_at cur slot ≡ 0 = sym (first_at cur slot) ∙ (free_fits slot k none).closed in record {
          of_unit = k.of_unit;
          no_record = k.no_record;
          closed = closed;
          was_closed = free_settled slot 0 k none (omega arith) ∙ closed;
        }

-- ---- slots that no advance writes back
-- not the slot of a record of the epoch before the clock
abbrev pub IsSpared : ℕ → Role → Type 0
IsSpared now Free = Unit {0}
IsSpared now (Unfinished w) = Unit {0}
IsSpared now (Written w) = Unit {0}
IsSpared now (Kept r closing) = r.label.epoch + 2 ≤ now
IsSpared now (Lost closing) = Unit {0}

-- the slot is that of no unit's record of the epoch before the clock
abbrev pub SparesSlot : ℕ → List UnitPart → ℕ → Type 0
SparesSlot now units slot = (v : ℕ) (q : UnitPart) (r : Held) → slice_get units v ≡ Some q → Contains q.records r
    → r.label.epoch + 1 ≡ now → r.slot ≢ slot

module _ (s : Shape) (now : ℕ) (cur dur : List ℕ) (units : List UnitPart) (h : HasSlots s now cur dur units) where
  -- a slot of such a role is that of no record of the epoch before the clock
  pub spared : (slot : ℕ) → IsSpared now (h.role slot) → SparesSlot now units slot
  spared slot free v q r at listed before same =
      let place = (h.shows v q at).says r.slot (Kept r (is_closing q.stage r.slot)) (refl, refl, listed) in
      let old : r.label.epoch + 2 ≤ now = subst (IsSpared now) (sym (ap h.role same) ∙ place.is) free in
      omega arith
